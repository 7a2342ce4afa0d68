use Rattle.line_protocol.proofs.EndsLemmas.{HasNoEnd-front}
use Rattle.line_protocol.proofs.line_buffer.Buffer.next_line_flushing.Goals as goal

pub returns-in-Err-clause-handed_on : goal.returns-in-Err-clause-handed_on
returns-in-Err-clause-handed_on g c =
    let kept = c.in_ok-flush_before_read.ensures.handed_on in
    let none = c.in-Err.ensures.finds.none in
    (kept.0, c.in_ok-flush_before_read.ensures.flushed (HasNoEnd-front _ none.gave none.no_end, none.goes_on), kept.1, kept.2)
