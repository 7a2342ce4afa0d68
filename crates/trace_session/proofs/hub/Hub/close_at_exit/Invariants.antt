use Rattle.std.proofs.Common.{vec_len}
use Rattle.trace_session.proofs.hub.Hub.close_at_exit.Given as goal

abbrev pub decreases-loop-tenant : goal.decreases-loop-tenant
decreases-loop-tenant g l = vec_len l.tenants
