use Rattle.std.proofs.Common.{◌+◌, ◌++◌, [], ◌∷◌, sym, ap, ◌∙◌, arith, length-append}
use Rattle.std.proofs.lemmas.Fmt.{decimal_digit}
use Rattle.line_protocol.proofs.reply_text.ReplyText.push_number.Goals as goal

pub returns-then-number-lt10-clause-text : goal.returns-then-number-lt10-clause-text
returns-then-number-lt10-clause-text c = c.push.ensures ∙ ap (λ digits. c.args.self.now ++ digits) (sym (decimal_digit c.args.number c.if-number-lt10.true))

pub returns-then-number-lt10-clause-short : goal.returns-then-number-lt10-clause-short
returns-then-number-lt10-clause-short c = rw c.push.ensures (omega (arith, length-append c.args.self.now ((48 + c.args.number) ∷ [])))
