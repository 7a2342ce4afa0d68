use Rattle.std.proofs.Common.{not, inl, inr, sym, ap, ◌∙◌}
use Rattle.std.proofs.lemmas.Bool.{cases_Bool, false≢true}
use Rattle.trace_export.proofs.graph.Graph.is_apart_from_chain.Goals as goal

pub returns-then-is_below_last-clause-refuted : goal.returns-then-is_below_last-clause-refuted
returns-then-is_below_last-clause-refuted c = λ _. (c.args.event, c.requires.event, inl (c.is_below_last.ensures.below c.if-is_below_last.true))

pub returns-clause-refuted : goal.returns-clause-refuted
returns-clause-refuted c = λ no. elim (cases_Bool c.is_above_first.result) [
  | inl is ↦
      let found = c.is_above_first.ensures.above is in
      (found.0, found.1, inr (found.2, found.3))
  | inr is_not ↦ absurd (false≢true (sym no ∙ ap not is_not))
]
