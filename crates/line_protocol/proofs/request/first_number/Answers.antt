use Rattle.std.proofs.Common.{◌≡◌, ◌∙◌, ◌+◌, false, get_or, sym, ◌==◌}
use Rattle.std.proofs.lemmas.Bool.{ltb-true, ltb-false, ne_eqb}
use Rattle.std.proofs.lemmas.List.{get_or_default, take_rest}
use Rattle.line_protocol.proofs.FirstNumberLemmas.{number-whole, number-blank, number-longer, number-none}
use Rattle.line_protocol.proofs.request.first_number.Goals as goal

pub returns-then-not-may_be_number : goal.returns-then-not-may_be_number
returns-then-not-may_be_number c =
    number-none _ _ _ c.leading_number-number.ensures (sym c.may_be_number.ensures ∙ c.if-not-may_be_number.true)

pub returns-in-None : goal.returns-in-None
returns-in-None c =
    number-whole _ _ _ c.leading_number-number.ensures (sym c.may_be_number.ensures ∙ c.if-not-may_be_number.false) (ltb-false _ _ (sym c.in-None.ensures.lookup.0))

pub returns-in-Some-eq32 : goal.returns-in-Some-eq32
returns-in-Some-eq32 c =
    let bytes = c.args.bytes.now in
    let count = c.leading_number-number.result.1 in
    let byte = c.in-Some-eq32.field-0.now in
    let within = ltb-true _ _ (sym c.in-Some-eq32.ensures.lookup.0) in
    let blank : get_or bytes count 0 ≡ 32 = get_or_default bytes count 0 byte within ∙ sym c.in-Some-eq32.ensures.lookup.1 ∙ c.in-Some-eq32.field-0-test in
    rw (take_rest bytes (count + 1)) (number-blank _ _ _ c.leading_number-number.ensures (sym c.may_be_number.ensures ∙ c.if-not-may_be_number.false) within blank)

pub returns-in-Some : goal.returns-in-Some
returns-in-Some c =
    let bytes = c.args.bytes.now in
    let count = c.leading_number-number.result.1 in
    let byte = c.in-Some.field-0.now in
    let within = ltb-true _ _ (sym c.in-Some.ensures.lookup.0) in
    let read : byte ≡ get_or bytes count 0 = c.in-Some.ensures.lookup.1 ∙ get_or_default bytes count byte 0 within in
    let other : (get_or bytes count 0 == 32) ≡ false = ne_eqb (get_or bytes count 0) 32 (λ is. c.in-Some.field-0-test.1 (read ∙ is)) in
    number-longer _ _ _ c.leading_number-number.ensures within other
