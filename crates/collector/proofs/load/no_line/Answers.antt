use Rattle.std.proofs.Common.{◌≡◌, ◌∙◌, ◌++◌, IfOk, ap, codes, decimal, string_bytes}
use Rattle.std.proofs.lemmas.Result.{IfOk-weaker}
use Rattle.collector.proofs.Lines.{in_turn}
use Rattle.collector.proofs.load.no_line.Goals as goal

pub returns : goal.returns
returns c =
    let text : IfOk c.format.result (λ line. string_bytes line ≡ codes "itc_trace: no " ++ (decimal c.args.line ++ (codes " " ++ (decimal c.number-reason.result ++ codes "\n")))) =
    c.format.ensures.ok
    in
    IfOk-weaker c.format.result _ _ (λ line is.
    is ∙ in_turn (codes "itc_trace: no ") (decimal c.args.line) (codes " ") (decimal c.number-reason.result)
    ∙ ap (λ n. codes "itc_trace: no " ++ decimal c.args.line ++ codes " " ++ decimal n ++ codes "\n") c.number-reason.ensures) text
