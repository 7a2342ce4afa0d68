use Rattle.trace_types.proofs.Requests.{request_of_iff}
use Rattle.trace_types.proofs.laws.requests.Goals as goal

pub returns : goal.returns
returns c = request_of_iff
