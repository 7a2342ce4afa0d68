use Rattle.std.proofs.Common.{◌∷◌, ◌++◌, decimal, ap, refl, sym, ◌∙◌, arith}
use Rattle.std.proofs.lemmas.Result.{err_from_is_err_and, IfErr-weaker}
use Rattle.stamp_codec.proofs.AtOnce.{more_behind}
use Rattle.stamp_codec.proofs.Refusals.{number_without_digit, number_not_zero, number_too_long, number_without_end, number_above}
use Rattle.stamp_codec.proofs.taking.take_digits.Goals as goal

pub returns-in_default-clause-refused : goal.returns-in_default-clause-refused
returns-in_default-clause-refused c = (refl, λ n behind more low. number_without_digit n c.args.rest.now.now (c.args.end ∷ behind) (omega (arith, low, c.requires.most)) c.in_default.ensures.none)

pub returns-then-first-eq48-clause-refused : goal.returns-then-first-eq48-clause-refused
returns-then-first-eq48-clause-refused c =
    (refl, λ n behind more low. number_not_zero n c.in-Some.first c.args.rest.now.now c.next_digit.new.rest.now (c.args.end ∷ behind) (omega (arith, more)) (omega (arith, low, c.requires.most)) c.in-Some.ensures.text c.if-first-eq48.true)

pub returns-then-number-most-clause-refused : goal.returns-then-number-most-clause-refused
returns-then-number-most-clause-refused c = (
  refl,
  λ n behind more low. number_too_long c.args.most c.loop-digit.number n c.in-Some-next_digit.digit c.args.end c.args.rest.now.now c.loop-digit.behind.now c.next_digit-in-loop-digit.new.rest.now behind
      c.requires.most c.loop-digit.invariant.text c.in-Some-next_digit.ensures.text c.loop-digit.invariant.below c.in-Some-next_digit.ensures.digit c.if-number-most.true c.requires.end low,
)

pub returns-in_err-take_byte-clause-refused : goal.returns-in_err-take_byte-clause-refused
returns-in_err-take_byte-clause-refused c =
    let p = err_from_is_err_and c.from_residual.result c.from_residual.ensures.1 in
    let refused = c.in_err-take_byte.ensures.refused in
    rw (p.1, p.2) (
      refused.0,
      λ n behind more low. number_without_end c.args.most c.loop-digit.number n c.args.end c.args.rest.now.now c.loop-digit.behind.now behind
          c.requires.most c.loop-digit.invariant.text c.loop-digit.invariant.below c.in_default-next_digit.ensures.none (rw c.in_default-next_digit.ensures.text at refused.1) c.requires.end low,
    )

pub returns-clause-refused : goal.returns-clause-refused
returns-clause-refused c =
    let text = c.loop-digit.invariant.text ∙ ap (λ t. decimal c.loop-digit.number ++ t) (sym c.in_default-next_digit.ensures.text ∙ c.in_ok-take_byte.ensures.text) in
    IfErr-weaker c.number_within.result _ _ (λ unread refused.
    (refused.0, λ n behind more low. number_above c.args.most c.loop-digit.number n c.args.end c.args.rest.now.now c.take_byte.new.rest.now behind c.requires.most text (omega (arith, c.loop-digit.invariant.below, c.requires.most)) refused.1 c.requires.end low))
    c.number_within.ensures.refused

pub loop-digit-preserved : goal.loop-digit-preserved
loop-digit-preserved c =
    let digit = c.in-Some-next_digit.ensures.digit in
    record {
      text = rw c.from.ensures (more_behind c.args.rest.now.now c.loop-digit.behind.now c.next_digit-in-loop-digit.new.rest.now c.loop-digit.number c.in-Some-next_digit.digit c.loop-digit.invariant.text c.in-Some-next_digit.ensures.text c.loop-digit.invariant.some digit.0 digit.1 (omega (arith, digit.0, digit.1)));
      some = omega (arith, c.loop-digit.invariant.some);
      below = omega (arith, digit.0, digit.1, c.from.ensures);
    }
