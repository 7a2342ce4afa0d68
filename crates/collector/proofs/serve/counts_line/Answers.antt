use Rattle.std.proofs.Common.{◌≡◌, ◌∙◌, ◌++◌, IfOk, codes, decimal, string_bytes}
use Rattle.std.proofs.lemmas.Result.{IfOk-weaker}
use Rattle.collector.proofs.Lines.{in_turn}
use Rattle.collector.proofs.serve.counts_line.Goals as goal

pub returns : goal.returns
returns c =
    let text : IfOk c.format.result (λ line. string_bytes line ≡ codes "served " ++ (decimal c.args.counts.sessions ++ (codes " faults " ++ (decimal c.args.counts.faults ++ codes "\n")))) =
    c.format.ensures.ok
    in
    IfOk-weaker c.format.result _ _ (λ line is. is ∙ in_turn (codes "served ") (decimal c.args.counts.sessions) (codes " faults ") (decimal c.args.counts.faults)) text
