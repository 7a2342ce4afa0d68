use Rattle.trace_types.proofs.Requests.{addressed_by_iff}
use Rattle.trace_types.proofs.laws.addressed.Goals as goal

pub returns : goal.returns
returns c = addressed_by_iff
