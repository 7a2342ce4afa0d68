use Rattle.std.proofs.Common.{◌≡◌, ◌++◌, length, take, sym, ap, ◌∙◌}
use Rattle.std.proofs.Math.ListN.{drop}
use Rattle.std.proofs.lemmas.List.{take-append-drop, take_rest}
use Rattle.std.proofs.lemmas.Slice.Eq.{bytes_eq-Decides}
use Rattle.line_protocol.proofs.request.behind.Goals as goal

pub returns-then-is_word-clause-some : goal.returns-then-is_word-clause-some
returns-then-is_word-clause-some c =
    let line = c.args.line.now in
    let word = c.args.word.now in
    let begun : take (length word) line ≡ word = (bytes_eq-Decides (take (length word) line) word).0 (sym c.is_word.ensures ∙ c.if-is_word.true) in
    sym (take-append-drop (length word) line) ∙
    ap (λ first. first ++ drop (length word) line) begun ∙
    ap (λ rest. word ++ rest) (sym (take_rest line (length word)))
