use Rattle.std.proofs.Common.{refl, sym}
use Rattle.line_protocol.proofs.FirstNumberLemmas.{two_numbers-more}
use Rattle.trace_types.specs.text.Reading.{words}
use Rattle.line_protocol.proofs.request.two_numbers.Goals as goal

pub returns-in_default-Some : goal.returns-in_default-Some
returns-in_default-Some c =
    let none = two_numbers-more (words c.args.arguments.now) c.in_ok-first.first c.in_ok-second.field-0.0 c.in_ok-rest.field-0.now c.in_default-Some.field-0-1.now
    (rw c.in_ok-rest.was at c.in_ok-first.ensures) (rw c.in_default-Some.is-1 at c.in_ok-second.ensures) in
    rw (sym none) refl
