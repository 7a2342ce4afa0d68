-- The points of the trees of events, once there is one more, or one less.
use Rattle.std.proofs.Common.{◌≡◌, ℕ, suc, ◌+◌, ◌-◌, ◌<◌, ◌≤◌, List, [], ◌∷◌, ◌++◌, length, slice_index_or, Option, None, sym, ap, subst, inl, inr, ◌∙◌, arith, length-append, length-set, slice_set}
use Rattle.std.proofs.lemmas.Bool.{cases_eq, cases_lt}
use Rattle.std.proofs.lemmas.List.{get_or_append_left, get_or-append-add, get_or-set_same, get_or-set_other, get_or_past}
use Rattle.event_tree.specs.declared.point.RaisedPoint.{RaisedPoint}
use Rattle.trace_export.specs.Edges.{Placing, IsPlaced, listed_tree}
use Rattle.trace_export.specs.Graph.{ArePoints, IsKeptGraph}
use Rattle.trace_export.specs.Raised.{IsForgotten, IsPointOf, IsPutAt}
use Rattle.trace_export.specs.declared.graph.Graph.{Graph}
use Rattle.trace_export.specs.declared.hints.Hints.{Hints}
use Rattle.trace_export.specs.declared.placed.Placed.{Placed}
use Rattle.trace_export.proofs.Alike.{tree_earlier}
use Rattle.trace_export.proofs.Connecting.{with_next, length-with_next}

-- no points are those of any trees
pub no_points : (points : List (Option RaisedPoint)) (placing : Placing) → points ≡ [] → ArePoints points placing
no_points points placing none = subst (λ (these : List (Option RaisedPoint)). ArePoints these placing) (sym none) (
  omega arith,
  λ event within. subst (λ (found : Option RaisedPoint). IsPointOf found (listed_tree placing event)) (sym (get_or_past [] (event - 1) None (omega arith))) tt,
)

-- the points are still those of the trees, with one event more listed
pub points-with_next : (points : List (Option RaisedPoint)) (placing : Placing) (placed : Placed) → ArePoints points placing → ArePoints points (with_next placing placed)
points-with_next points placing placed are = (
  omega (arith, are.0, length-with_next placing placed),
  λ event within. elim (cases_eq event (suc (length placing))) [
    | inl next ↦ subst (λ (found : Option RaisedPoint). IsPointOf found (listed_tree (with_next placing placed) event)) (sym (get_or_past points (event - 1) None (omega (arith, next, are.0)))) tt
    | inr other ↦
        let old : IsPlaced placing event = (within.0, omega (arith, other, within.1, length-with_next placing placed)) in
        subst (λ e. IsPointOf (slice_index_or points (event - 1) None) e) (sym (tree_earlier placing placed event old)) (are.1 event old)
  ],
)

-- the point of an event is put behind those of the earlier ones, or none is kept
pub points_put : (points points' : List (Option RaisedPoint)) (placing : Placing) (place : ℕ) (point : Option RaisedPoint) → ArePoints points placing → place < length placing → IsPointOf point (listed_tree placing (suc place))
    → IsPutAt place point points points' → ArePoints points' placing
points_put points points' placing place point are low is (inr none) = no_points points' placing none
points_put points points' placing place point are low is (inl put) = subst (λ (these : List (Option RaisedPoint)). ArePoints these placing) (sym put.1) (
  omega (arith, length-append points (point ∷ []), put.0, low),
  λ event within. elim (cases_eq event (suc place)) [
    | inl this ↦
        let at : event - 1 ≡ length points + 0 = omega (arith, this, put.0) in
        subst (λ e. IsPointOf (slice_index_or (points ++ point ∷ []) (event - 1) None) (listed_tree placing e)) (sym this)
        (subst (λ (found : Option RaisedPoint). IsPointOf found (listed_tree placing (suc place))) (sym (ap (λ k. slice_index_or (points ++ point ∷ []) k None) at ∙ get_or-append-add points (point ∷ []) 0 None)) is)
    | inr other ↦ elim (cases_lt (event - 1) (length points)) [
      | inl old ↦ subst (λ (found : Option RaisedPoint). IsPointOf found (listed_tree placing event)) (sym (get_or_append_left points (point ∷ []) None (event - 1) old)) (are.1 event within)
      | inr past ↦
          let long : length (points ++ point ∷ []) ≤ event - 1 = omega (arith, past, other, within.0, put.0, length-append points (point ∷ [])) in
          subst (λ (found : Option RaisedPoint). IsPointOf found (listed_tree placing event)) (sym (get_or_past (points ++ point ∷ []) (event - 1) None long)) tt
    ]
  ],
)

-- a point may be forgotten
pub points_forgotten : (points points' : List (Option RaisedPoint)) (placing : Placing) (place : ℕ) → ArePoints points placing → IsForgotten place points points' → ArePoints points' placing
points_forgotten points points' placing place are (inl same) = subst (λ (these : List (Option RaisedPoint)). ArePoints these placing) (sym same) are
points_forgotten points points' placing place are (inr forgotten) = subst (λ (these : List (Option RaisedPoint)). ArePoints these placing) (sym forgotten.1) (
  omega (arith, length-set points place None, are.0),
  λ event within. elim (cases_eq (event - 1) place) [
    | inl same ↦ subst (λ (found : Option RaisedPoint). IsPointOf found (listed_tree placing event)) (sym (ap (λ k. slice_index_or (slice_set points place None) k None) same ∙ get_or-set_same points place None None forgotten.0)) tt
    | inr other ↦ subst (λ (found : Option RaisedPoint). IsPointOf found (listed_tree placing event)) (sym (get_or-set_other points place (event - 1) None None other)) (are.1 event within)
  ],
)

-- what is kept has other hints
pub with_points : (graph : Graph) (hints : Hints) → IsKeptGraph graph → ArePoints hints.points.items graph.placed.items → IsKeptGraph (record graph { hints = hints })
with_points graph hints kept points = record {
  lines = kept.lines;
  few = kept.few;
  room = kept.room;
  chains = kept.chains;
  chained = kept.chained;
  ends_room = kept.ends_room;
  points = points;
}
