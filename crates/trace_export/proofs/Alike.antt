-- The trees of events, with one event more.
use Rattle.std.proofs.Common.{◌≡◌, ℕ, suc, length, sym, ap, subst, inl, inr, arith}
use Rattle.std.proofs.lemmas.Bool.{cases_eq}
use Rattle.event_tree.specs.Comparison.{IsBelow}
use Rattle.trace_export.specs.declared.placed.Placed.{Placed}
use Rattle.trace_export.specs.Edges.{Placing, IsPlaced, listed_tree, AreOrderedAlike}
use Rattle.trace_export.specs.Graph.{EdgesLeadBack, AreAllAlike}
use Rattle.trace_export.specs.Verdict.{IsOrderedNext}
use Rattle.trace_export.proofs.Connecting.{with_next, length-with_next, placed_at-earlier, placed_at-next, connected-with_next}

pub tree_earlier : (placing : Placing) (placed : Placed) (event : ℕ) → IsPlaced placing event → listed_tree (with_next placing placed) event ≡ listed_tree placing event
tree_earlier placing placed event within = ap (λ (at : Placed). at.tree) (placed_at-earlier placing placed event within)

pub tree_next : (placing : Placing) (placed : Placed) → listed_tree (with_next placing placed) (suc (length placing)) ≡ placed.tree
tree_next placing placed = ap (λ (at : Placed). at.tree) (placed_at-next placing placed)

alike_earlier : (placing : Placing) (placed : Placed) → EdgesLeadBack placing → (a b : ℕ) → IsPlaced placing a → IsPlaced placing b → AreOrderedAlike placing a b → AreOrderedAlike (with_next placing placed) a b
alike_earlier placing placed back a b first second known =
    let edges = connected-with_next placing placed back a b second in
    let edges_back = connected-with_next placing placed back b a first in (
      (
        (λ (below : IsBelow (listed_tree (with_next placing placed) a) (listed_tree (with_next placing placed) b)).
            edges.1 (known.0.0 (subst (λ e. IsBelow (listed_tree placing a) e) (tree_earlier placing placed b second) (subst (λ e. IsBelow e (listed_tree (with_next placing placed) b)) (tree_earlier placing placed a first) below)))),
        (λ connected. subst (λ e. IsBelow e (listed_tree (with_next placing placed) b)) (sym (tree_earlier placing placed a first)) (subst (λ e. IsBelow (listed_tree placing a) e) (sym (tree_earlier placing placed b second)) (known.0.1 (edges.0 connected)))),
      ),
      (
        (λ (below : IsBelow (listed_tree (with_next placing placed) b) (listed_tree (with_next placing placed) a)).
            edges_back.1 (known.1.0 (subst (λ e. IsBelow (listed_tree placing b) e) (tree_earlier placing placed a first) (subst (λ e. IsBelow e (listed_tree (with_next placing placed) a)) (tree_earlier placing placed b second) below)))),
        (λ connected. subst (λ e. IsBelow e (listed_tree (with_next placing placed) a)) (sym (tree_earlier placing placed b second)) (subst (λ e. IsBelow (listed_tree placing b) e) (sym (tree_earlier placing placed a first)) (known.1.1 (edges_back.0 connected)))),
      ),
    )

-- all events are ordered as the edges say, once the next one is
pub alike_next : (placing : Placing) (placed : Placed) → EdgesLeadBack placing → AreAllAlike placing → IsOrderedNext placing placed → AreAllAlike (with_next placing placed)
alike_next placing placed back known ordered a b first second less =
    let old : IsPlaced placing a = (first.0, omega (arith, less, second.1, length-with_next placing placed)) in
    elim (cases_eq b (suc (length placing))) [
      | inl next ↦ subst (λ at. AreOrderedAlike (with_next placing placed) a at) (sym next) (ordered a old)
      | inr other ↦
          let old' : IsPlaced placing b = (second.0, omega (arith, other, second.1, length-with_next placing placed)) in
          alike_earlier placing placed back a b old old' (known a b old old' less)
    ]
