use Rattle.trace_query.proofs.LastEvents.{members, increases}
use Rattle.trace_query.proofs.laws.cut.Goals as goal

pub returns-clause-last : goal.returns-clause-last
returns-clause-last c = members

pub returns-clause-increasing : goal.returns-clause-increasing
returns-clause-increasing c = λ tasks trees event. increases trees tasks event
