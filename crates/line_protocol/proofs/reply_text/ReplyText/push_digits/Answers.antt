use Rattle.std.proofs.Common.{◌≤◌, ◌++◌, [], ◌∷◌, sym, ap, ◌∙◌, arith}
use Rattle.line_protocol.proofs.Digits.{two_digits, three_digits, four_digits}
use Rattle.line_protocol.proofs.reply_text.ReplyText.push_digits.Goals as goal

pub returns-then-tens-lt10-clause-text : goal.returns-then-tens-lt10-clause-text
returns-then-tens-lt10-clause-text c =
    let before = c.args.self.now in
    c.push.ensures ∙ (λ i. before ++ (c.digit.ensures i ∷ c.digit-last.ensures i ∷ []))
    ∙ ap (λ digits. before ++ digits) (sym (two_digits c.args.number c.requires.many c.ranges.number.fits c.if-tens-lt10.true))

pub returns-then-hundreds-lt10-clause-text : goal.returns-then-hundreds-lt10-clause-text
returns-then-hundreds-lt10-clause-text c =
    let before = c.args.self.now in
    let many : 100 ≤ c.args.number = omega (arith, c.if-tens-lt10.false) in
    c.push-then-hundreds-lt10.ensures ∙ (λ i. before ++ (c.digit-then-hundreds-lt10.ensures i ∷ c.digit-third.ensures i ∷ c.digit-last.ensures i ∷ []))
    ∙ ap (λ digits. before ++ digits) (sym (three_digits c.args.number many c.ranges.number.fits c.if-hundreds-lt10.true))

pub returns-then-thousands-lt10-clause-text : goal.returns-then-thousands-lt10-clause-text
returns-then-thousands-lt10-clause-text c =
    let before = c.args.self.now in
    let many : 1000 ≤ c.args.number = omega (arith, c.if-hundreds-lt10.false) in
    c.push-then-thousands-lt10.ensures
    ∙ (λ i. before ++ (c.digit-then-thousands-lt10.ensures i ∷ c.digit-second.ensures i ∷ c.digit-third.ensures i ∷ c.digit-last.ensures i ∷ []))
    ∙ ap (λ digits. before ++ digits) (sym (four_digits c.args.number many c.ranges.number.fits c.if-thousands-lt10.true))
