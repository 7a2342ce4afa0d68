use Rattle.std.proofs.Common.{◌≡◌, ◌∙◌, ◌++◌, IfOk, ap, sym, codes, decimal, string_bytes}
use Rattle.std.proofs.lemmas.Result.{IfOk-weaker}
use Rattle.collector.specs.Program.{line_of_verdict}
use Rattle.collector.proofs.Lines.{in_turn}
use Rattle.collector.proofs.check.verdict_line.Goals as goal

pub returns-in-No : goal.returns-in-No
returns-in-No c =
    let text : IfOk c.format-in-No.result (λ line. string_bytes line ≡ codes "no " ++ (decimal c.in-No.line ++ (codes " " ++ (decimal c.number-reason.result ++ codes "\n")))) =
    c.format-in-No.ensures.ok
    in
    IfOk-weaker c.format-in-No.result _ _ (λ line is.
    is ∙ in_turn (codes "no ") (decimal c.in-No.line) (codes " ") (decimal c.number-reason.result)
    ∙ ap (λ n. codes "no " ++ decimal c.in-No.line ++ codes " " ++ decimal n ++ codes "\n") c.number-reason.ensures
    ∙ sym (ap line_of_verdict c.in-No.is)) text
