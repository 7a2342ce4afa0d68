use Rattle.std.proofs.Common.{◌≡◌, ◌+◌, drop}
use Rattle.std.specs.Prelude.{option_map}
use Rattle.trace_types.specs.world.Replay.{place_of}
use Rattle.trace_types.proofs.tenant_names.place_of.Given as goal

-- what was looked at is not the name
abbrev pub invariant-loop-place : goal.invariant-loop-place
invariant-loop-place l = place_of l.names l.text ≡ option_map (λ place. l.place + place) (place_of (drop l.place l.names) l.text)
