use Rattle.trace_types.proofs.Names.{is_same_iff}
use Rattle.trace_types.proofs.laws.names.Goals as goal

pub returns : goal.returns
returns c = is_same_iff
