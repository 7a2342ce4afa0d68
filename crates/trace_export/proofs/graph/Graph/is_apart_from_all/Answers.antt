use Rattle.std.proofs.Common.{◌≡◌, ◌+◌, ◌-◌, ◌<◌, ◌≤◌, ◌∙◌, List, ℕ, length, ap, sym, subst, inl, inr, arith, Vec, Global}
use Rattle.std.proofs.lemmas.Bool.{cases_lt}
use Rattle.std.proofs.lemmas.List.{length-map}
use Rattle.trace_export.specs.Bits.{HasBit}
use Rattle.trace_export.specs.Graph.{ArePoints, IsApartFromChain, rows_of}
use Rattle.trace_export.specs.declared.hints.Hints.{Hints}
use Rattle.trace_export.proofs.Chaining.{apart_from_all, none_missing}
use Rattle.trace_export.proofs.graph.Graph.is_apart_from_all.Goals as goal
use Rattle.trace_export.proofs.graph.Graph.is_apart_from_all.Goals.{else-run-eq0-via-then-run-eq0+else-not-is_apart_from_chain, else-run-eq0-via-else-run-eq0, After-max-place}

pub overflow_add-place-in-loop-place : goal.overflow_add-place-in-loop-place
overflow_add-place-in-loop-place c = omega (arith, c.max-place.ensures, c.run_outside-run.ensures.few, c.loop-place-test.true, c.len.ensures, c.loop-place.auto.place-fits, c.args.self.now.placed.small)

-- a chain whose end is passed over is apart from the tree: its end is followed, and reaches the tree's event
passed_over : (c : After-max-place) (last : ℕ) → 0 < last → last ≤ length c.args.self.now.placed.items → HasBit c.args.self.now.chains.tails.items (last - 1)
    → c.loop-place.place < last → last ≤ c.loop-place.place + c.run_outside-run.result
    → IsApartFromChain c.args.self.now.placed.items c.args.self.now.chains.before.items c.args.self.now.followed.items c.args.reaching.now c.args.placed.now.tree last
passed_over c last some within bit new low =
    let graph = c.requires.graph in
    let chained : length c.args.self.now.chains.before.items ≡ length c.args.self.now.placed.items = graph.chained ∙ graph.whole in
    elim (c.run_outside-run.ensures.all (last - 1) (omega (arith, new)) (omega (arith, some, low))) [
      | inl none ↦ absurd (none (subst (λ (bits : List ℕ). HasBit bits (last - 1)) (sym c.deref.ensures.value) bit))
      | inr both ↦ record {
        not_below = λ unfollowed. absurd (unfollowed (subst (λ (bits : List ℕ). HasBit bits (last - 1)) c.deref-in-loop-place.ensures.value both.0));
        not_above = λ event placed on missing below.
            none_missing c.args.self.now.placed.items c.args.self.now.chains.before.items c.args.self.now.chains.tails.items graph.lines.back graph.chains (omega (arith, chained)) c.args.reaching.now c.requires.closed
            last event (omega (arith, chained, within)) placed.0 both.1 on missing.0;
      }
    ]

pub loop-place-preserved : goal.loop-place-preserved
loop-place-preserved c = elim c.else-run-eq0.branch [
  | else-run-eq0-via-then-run-eq0+else-not-is_apart_from_chain w ↦ record {
    points = subst (λ (hints : Hints). ArePoints hints.points.items c.args.self.now.placed.items) (sym w.hints-is) w.is_apart_from_chain.ensures.points;
    kept = ap (λ (hints : Hints). hints.are_kept) w.hints-is ∙ w.is_apart_from_chain.ensures.kept ∙ c.loop-place.invariant.kept;
    apart = λ last some low within bit. elim (cases_lt c.loop-place.place last) [
      | inr old ↦ c.loop-place.invariant.apart last some old within bit
      | inl new ↦
          let this : c.loop-place.place + 1 ≡ last = omega (arith, new, low, c.max-place.ensures, w.if-run-eq0) in
          subst (λ at. IsApartFromChain c.args.self.now.placed.items c.args.self.now.chains.before.items c.args.self.now.followed.items c.args.reaching.now c.args.placed.now.tree at) this
          (w.is_apart_from_chain.ensures.apart w.if-not-is_apart_from_chain.false)
    ];
  }
  | else-run-eq0-via-else-run-eq0 w ↦ record {
    points = subst (λ (hints : Hints). ArePoints hints.points.items c.args.self.now.placed.items) (sym w.hints-is) c.loop-place.invariant.points;
    kept = ap (λ (hints : Hints). hints.are_kept) w.hints-is ∙ c.loop-place.invariant.kept;
    apart = λ last some low within bit. elim (cases_lt c.loop-place.place last) [
      | inr old ↦ c.loop-place.invariant.apart last some old within bit
      | inl new ↦ passed_over c last some within bit new (omega (arith, low, c.max-place.ensures, w.if-run-eq0))
    ];
  }
]

pub returns-clause-apart : goal.returns-clause-apart
returns-clause-apart c = λ _.
    let graph = c.requires.graph in
    let chained : length c.args.self.now.chains.before.items ≡ length c.args.self.now.placed.items = graph.chained ∙ graph.whole in
    let count = length-map c.args.self.now.reaching.items (λ (row : Vec ℕ Global). row.items) in
    apart_from_all c.args.self.now.placed.items c.args.self.now.chains.before.items c.args.self.now.chains.tails.items graph.lines.back graph.chains (omega (arith, chained))
    (rows_of c.args.self.now) c.args.self.now.followed.items graph.lines chained (omega (arith, count, graph.whole)) c.args.reaching.now c.args.placed.now.tree
    (λ tail some within bit. c.loop-place.invariant.apart tail some (omega (arith, within, c.loop-place-test.false, c.len.ensures)) within bit)
