use Rattle.line_protocol.proofs.FirstNumberLemmas.{only_number-more}
use Rattle.trace_types.specs.text.Reading.{words}
use Rattle.line_protocol.proofs.request.only_number.Goals as goal

pub returns-in_default-Some : goal.returns-in_default-Some
returns-in_default-Some c =
    only_number-more (words c.args.arguments.now) c.in_ok-number.field-0.0 c.in_default-Some.field-0-1.now (rw c.in_default-Some.is-1 at c.in_ok-number.ensures)
