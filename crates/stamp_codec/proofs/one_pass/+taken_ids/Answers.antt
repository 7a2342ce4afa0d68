use Rattle.std.proofs.Common.{arith, ◌∷◌}
use Rattle.std.proofs.lemmas.Result.{err_from_is_err_and, IfErr-weaker}
use Rattle.stamp_codec.proofs.Flats.{nowhere_first}
use Rattle.stamp_codec.proofs.Refusals.{pair_too_deep, pair_without_left, pair_without_right, pair_of_one, id_without_end, no_id, no_id_begins}
use Rattle.stamp_codec.proofs.one_pass.+taken_ids.Goals as goal

pub take_id-returns-in-Some-clause-refused : goal.take_id-returns-in-Some-clause-refused
take_id-returns-in-Some-clause-refused t c =
    let digit = c.in-Some.ensures.digit in
    λ is. no_id_begins c.args.levels c.args.end c.in-Some.field-0 c.args.rest.now.now (c.args.end ∷ c.take_digit.new.rest.now) c.in-Some.ensures.text (omega (arith, digit.0)) c.in-Some.field-0-test.0.1 c.in-Some.field-0-test.1

pub take_id-returns-in_err-take_byte-in-None-clause-refused : goal.take_id-returns-in_err-take_byte-in-None-clause-refused
take_id-returns-in_err-take_byte-in-None-clause-refused t c =
    let p = err_from_is_err_and c.from_residual.result c.from_residual.ensures.1 in
    let none = c.in-None.ensures.none in
    rw (p.1, p.2) (λ is. no_id c.args.levels c.args.end c.args.rest.now.now (λ behind. none 48 behind (omega arith) (omega arith)) (λ behind. none 49 behind (omega arith) (omega arith)) (rw c.in-None.ensures.text at c.in_err-take_byte-in-None.ensures.refused.1))

pub take_id-returns-in_err-id-in-None-clause-flat : goal.take_id-returns-in_err-id-in-None-clause-flat
take_id-returns-in_err-id-in-None-clause-flat t c opens = absurd (nowhere_first c.args.rest.now.now c.take_byte.new.rest.now opens (rw c.in-None.ensures.text at c.in_ok-take_byte-in-None.ensures.text))

pub take_id-returns-in_err-take_byte-in-None-2-clause-refused : goal.take_id-returns-in_err-take_byte-in-None-2-clause-refused
take_id-returns-in_err-take_byte-in-None-2-clause-refused t c =
    let p = err_from_is_err_and c.from_residual-in_err-take_byte-in-None-2.result c.from_residual-in_err-take_byte-in-None-2.ensures.1 in
    rw (p.1, p.2) (λ is. id_without_end c.args.levels c.args.end c.args.rest.now.now c.take_byte.new.rest.now c.take_pair.new.rest.now c.in_ok-id-in-None.id c.in_ok-id-in-None.ensures.text (rw c.in-None.ensures.text at c.in_ok-take_byte-in-None.ensures.text) c.in_err-take_byte-in-None-2.ensures.refused.1)

pub take_pair-returns-then-levels-eq0-clause-refused : goal.take_pair-returns-then-levels-eq0-clause-refused
take_pair-returns-then-levels-eq0-clause-refused t c = λ is. rw c.if-levels-eq0.true (pair_too_deep c.args.rest.now.now)

pub take_pair-returns-in_err-left-clause-refused : goal.take_pair-returns-in_err-left-clause-refused
take_pair-returns-in_err-left-clause-refused t c =
    let p = err_from_is_err_and c.from_residual.result c.from_residual.ensures.1 in
    rw (p.1, p.2) (λ is. pair_without_left c.args.levels c.args.rest.now.now c.if-levels-eq0.false (c.in_err-left.ensures.refused is))

pub take_pair-returns-in_err-right-clause-refused : goal.take_pair-returns-in_err-right-clause-refused
take_pair-returns-in_err-right-clause-refused t c =
    let p = err_from_is_err_and c.from_residual-in_err-right.result c.from_residual-in_err-right.ensures.1 in
    rw (p.1, p.2) (λ is. pair_without_right c.args.levels c.args.rest.now.now c.take_id.new.rest.now c.in_ok-left.left c.if-levels-eq0.false c.in_ok-left.ensures.text (c.in_err-right.ensures.refused is))

pub take_pair-returns-clause-refused : goal.take_pair-returns-clause-refused
take_pair-returns-clause-refused t c =
    IfErr-weaker c.pair_of.result _ _ (λ unread same is. pair_of_one c.args.levels c.args.rest.now.now c.take_id.new.rest.now c.take_id-2.new.rest.now c.in_ok-left.left c.in_ok-right.right c.in_ok-left.ensures.text c.in_ok-right.ensures.text (same is)) c.pair_of.ensures.refused
