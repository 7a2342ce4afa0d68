use Rattle.std.proofs.Common.{◌≡◌, drop}
use Rattle.trace_types.specs.world.TenantNames.{are_distinct}
use Rattle.trace_types.proofs.tenant_names.are_distinct.Given as goal

-- what was looked at stands once
abbrev pub invariant-loop-place : goal.invariant-loop-place
invariant-loop-place l = are_distinct l.names ≡ are_distinct (drop l.place l.names)
