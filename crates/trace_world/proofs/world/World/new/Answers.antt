use Rattle.std.proofs.Common.{refl}
use Rattle.trace_world.proofs.Fresh.{IsAfter-fresh}
use Rattle.trace_world.proofs.Standing.{IsWorld-fresh}
use Rattle.trace_world.proofs.world.World.new.Goals as goal

pub invariant_of-result : goal.invariant_of-result
invariant_of-result c = rw (c.in_ok-ledgers.ensures, c.as_slice.ensures.names) (IsWorld-fresh _ c.args.limits c.as_slice.ensures.tenants)

pub returns-clause-fresh : goal.returns-clause-fresh
returns-clause-fresh c = rw c.in_ok-ledgers.ensures (IsAfter-fresh c.args.limits c.as_slice.result.now c.in-Some.names _ refl)

pub returns-clause-world : goal.returns-clause-world
returns-clause-world c = rw (c.in_ok-ledgers.ensures, c.as_slice.ensures.names, c.in-Some.ensures.names) refl
