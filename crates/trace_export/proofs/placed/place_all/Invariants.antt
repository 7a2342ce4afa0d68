use Rattle.std.proofs.Common.{◌≡◌, take}
use Rattle.trace_types.specs.tenant.Rows.{history_of}
use Rattle.trace_export.specs.Following.{placing_of}
use Rattle.trace_export.proofs.placed.place_all.Given as goal

abbrev pub invariant-loop-place : goal.invariant-loop-place
invariant-loop-place l = l.placed.items ≡ take l.place (placing_of (history_of l.ledger.rows))
