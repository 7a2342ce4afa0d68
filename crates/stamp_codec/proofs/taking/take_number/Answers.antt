use Rattle.std.proofs.Common.{◌≡◌, ◌-◌, ◌∷◌, ◌++◌, ap, sym, ◌∙◌, arith}
use Rattle.std.proofs.lemmas.Result.{IfErr-weaker}
use Rattle.stamp_codec.proofs.AtOnce.{one_digit}
use Rattle.stamp_codec.proofs.Refusals.{number_above, no_number}
use Rattle.stamp_codec.proofs.taking.take_number.Goals as goal

pub returns-in-Some-clause-refused : goal.returns-in-Some-clause-refused
returns-in-Some-clause-refused c =
    let digit = c.in-Some.ensures.digit in
    let text = c.in-Some.ensures.text ∙ ap (λ t. t ++ (c.args.end ∷ c.take_digit.new.rest.now)) (sym (one_digit c.in-Some.digit digit.0 digit.1)) in
    IfErr-weaker c.number_within.result _ _ (λ unread refused.
    (refused.0, λ n behind low. number_above c.args.most (c.in-Some.digit - 48) n c.args.end c.args.rest.now.now c.take_digit.new.rest.now behind c.requires.most text (omega (arith, digit.1)) (omega (arith, refused.1, c.from.ensures)) c.requires.end low))
    c.number_within.ensures.refused

pub returns-in-None-clause-refused : goal.returns-in-None-clause-refused
returns-in-None-clause-refused c =
    let text : c.take_digit.new.rest.now ≡ c.args.rest.now.now = c.in-None.ensures.text in
    IfErr-weaker c.take_digits.result _ _ (λ unread refused. (refused.0, no_number c.args.most c.args.end c.args.rest.now.now c.in-None.ensures.none (rw text at refused.1))) c.take_digits.ensures.refused
