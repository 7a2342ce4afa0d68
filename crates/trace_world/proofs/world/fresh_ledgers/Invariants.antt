use Rattle.std.proofs.Common.{◌≡◌, map, take}
use Rattle.trace_types.specs.tenant.Tenant.{fresh}
use Rattle.trace_world.proofs.world.fresh_ledgers.Given as goal

-- the tenants of the names so far
abbrev pub invariant-loop : goal.invariant-loop
invariant-loop l = l.ledgers.items ≡ map (λ name. fresh l.fn.limits) (take l.index l.fn.names)
