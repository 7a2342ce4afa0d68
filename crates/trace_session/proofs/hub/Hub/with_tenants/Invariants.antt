use Rattle.std.proofs.Common.{take}
use Rattle.trace_session.specs.Hubs.{IsHubOf}
use Rattle.trace_session.proofs.hub.Hub.with_tenants.Given as goal

abbrev pub invariant-loop-name : goal.invariant-loop-name
invariant-loop-name g l = IsHubOf (take l.name-index l.names) l.limits l.hub
