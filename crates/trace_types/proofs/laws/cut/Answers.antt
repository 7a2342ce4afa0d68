use Rattle.trace_types.proofs.Cuts.{members, every_task, itself, increases}
use Rattle.trace_types.proofs.laws.cut.Goals as goal

pub returns-clause-members : goal.returns-clause-members
returns-clause-members c = members

pub returns-clause-every_task : goal.returns-clause-every_task
returns-clause-every_task c = every_task

pub returns-clause-itself : goal.returns-clause-itself
returns-clause-itself c = itself

pub returns-clause-increasing : goal.returns-clause-increasing
returns-clause-increasing c = increases
