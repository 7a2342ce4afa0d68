use Rattle.trace_query.proofs.Told.{told_by_reach}
use Rattle.trace_query.proofs.laws.told_by_reach.Goals as goal

pub returns : goal.returns
returns c = told_by_reach
