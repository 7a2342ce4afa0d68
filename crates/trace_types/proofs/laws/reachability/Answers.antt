use Rattle.trace_types.proofs.Reachability.{reaches_iff}
use Rattle.trace_types.proofs.laws.reachability.Goals as goal

pub returns : goal.returns
returns c = reaches_iff
