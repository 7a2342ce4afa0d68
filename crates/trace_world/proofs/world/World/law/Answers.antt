use Rattle.std.proofs.Common.{subst}
use Rattle.trace_world.specs.Tenants.{IsLedTo}
use Rattle.trace_world.proofs.Leading.{IsLedTo-world}
use Rattle.trace_world.proofs.world.World.law.Goals as goal

pub returns-clause-led : goal.returns-clause-led
returns-clause-led c = subst IsLedTo c.self.view_is (IsLedTo-world _ c.self.invariant)
