use Rattle.trace_export.proofs.PlainLines.{due_line_is}
use Rattle.trace_export.proofs.laws.line_of_event.Goals as goal

pub returns-clause-compared : goal.returns-clause-compared
returns-clause-compared c = due_line_is
