use Rattle.std.proofs.Common.{◌≡◌, ◌-◌, take, drop, ap, ◌∙◌, arith, length-drop}
use Rattle.std.proofs.lemmas.List.{take_all}
use Rattle.std.specs.Int.{w64, from_le_bytes}
use Rattle.trace_types.specs.text.NamePadding.{word_at}
use Rattle.trace_types.proofs.name.word_at.Goals as goal

pub returns : goal.returns
unfolding word_at
returns c =
    let rest : take (24 - c.args.start) (drop c.args.start c.args.bytes.now) ≡ drop c.args.start c.args.bytes.now = take_all (24 - c.args.start) (drop c.args.start c.args.bytes.now) (simp length-drop (omega arith)) in
    c.from_ne_bytes.ensures ∙ ap (from_le_bytes w64) (c.in-Some.ensures.cases.same ∙ ap (take 8) rest)
