use Rattle.trace_session.proofs.Running.{desk_runs}
use Rattle.trace_session.proofs.laws.reports_run.Goals as goal

pub returns : goal.returns
returns c = desk_runs
