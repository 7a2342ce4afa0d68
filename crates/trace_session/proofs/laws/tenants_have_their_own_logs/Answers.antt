use Rattle.trace_session.proofs.OwnLogs.{one_log_one_tenant, own_logs}
use Rattle.trace_session.proofs.laws.tenants_have_their_own_logs.Goals as goal

pub returns-clause-tenants : goal.returns-clause-tenants
returns-clause-tenants c = own_logs

pub returns-clause-sessions : goal.returns-clause-sessions
returns-clause-sessions c = one_log_one_tenant
