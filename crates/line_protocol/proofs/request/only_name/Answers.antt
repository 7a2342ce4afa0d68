use Rattle.line_protocol.proofs.WordsLemmas.{only-more}
use Rattle.line_protocol.proofs.request.only_name.Goals as goal

pub returns-in_default-Some : goal.returns-in_default-Some
returns-in_default-Some c =
    only-more _ c.split_first.result.0.now c.in_default-Some.field-0-1.now _ (rw c.in_default-Some.is-1 at c.split_first.ensures)
