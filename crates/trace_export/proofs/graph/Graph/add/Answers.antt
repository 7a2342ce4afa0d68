use Rattle.std.proofs.Common.{◌≡◌, ◌↔◌, ◌<◌, ◌++◌, ◌∷◌, [], ◌∙◌, ℕ, suc, List, map, Vec, Global, length, length-append, sym, ap, subst, arith}
use Rattle.std.proofs.lemmas.List.{length-map}
use Rattle.trace_export.specs.Bits.{HasBit}
use Rattle.trace_export.specs.Edges.{AreOrderedAlike, IsPlaced, Placing, listed_tree}
use Rattle.trace_export.specs.Graph.{AreEarlier, AreReaching, IsReachedBy, rows_of}
use Rattle.trace_export.specs.Raised.{IsPointOf}
use Rattle.trace_export.specs.Verdict.{IsOrderedNext}
use Rattle.trace_export.specs.declared.placed.Placed.{Placed}
use Rattle.trace_export.proofs.Alike.{tree_next}
use Rattle.trace_export.proofs.Ordering.{reaching_next}
use Rattle.trace_export.proofs.RaisedPoints.{points_put, with_points}
use Rattle.trace_export.proofs.graph.Graph.add.Goals as goal

pub is_ordered-is_ordered-requires-clause-reaching :
    goal.is_ordered-is_ordered-requires-clause-reaching
is_ordered-is_ordered-requires-clause-reaching c =
    let graph = c.complete.new.self in
    let placing = graph.placed.items in
    let same = ap (λ (placed : Vec Placed Global). placed.items) c.complete.ensures.placed in
    let all : length (rows_of graph) ≡ length placing = omega (arith, length-map graph.reaching.items (λ (row : Vec ℕ Global). row.items), c.in_ok-complete.ensures.whole) in
    let earlier = subst (λ (events : Placing). AreEarlier c.args.placed.preds (suc (length events))) (sym same) c.requires.preds in
    let reached : (place : ℕ) → HasBit c.in_ok-reaching.reaching.items place ↔ IsReachedBy (rows_of graph) c.args.placed.preds place =
    subst (λ (preds : List ℕ). (place : ℕ) → HasBit c.in_ok-reaching.reaching.items place ↔ IsReachedBy (rows_of graph) preds place) c.as_slice.ensures.events c.in_ok-reaching.ensures.reaching in
    subst (λ (bits : List ℕ). AreReaching (placing ++ c.args.placed ∷ []) bits (suc (length placing))) (sym c.deref.ensures.value)
    (reaching_next placing (rows_of graph) graph.followed.items c.complete.ensures.graph.lines all c.args.placed earlier c.in_ok-reaching.reaching.items reached)

pub returns-then-not-is_ordered-clause-refuted : goal.returns-then-not-is_ordered-clause-refuted
returns-then-not-is_ordered-clause-refuted c = λ _.
    subst (λ (placing : Placing). (other : ℕ) × IsPlaced placing other × (¬ AreOrderedAlike (placing ++ c.args.placed ∷ []) other (suc (length placing))))
    (ap (λ (placed : Vec Placed Global). placed.items) c.complete.ensures.placed) (c.is_ordered-is_ordered.ensures.refuted c.if-not-is_ordered.true)

pub put-requires-clause-ordered : goal.put-requires-clause-ordered
put-requires-clause-ordered c = subst (λ (placing : Placing). IsOrderedNext placing c.args.placed) (sym c.make_room.ensures.placed) (c.is_ordered-is_ordered.ensures.ordered c.if-not-is_ordered.false)

pub put-requires-clause-reaching : goal.put-requires-clause-reaching
put-requires-clause-reaching c = λ place.
    subst (λ (rows : List (List ℕ)). HasBit c.in_ok-reaching.reaching.items place ↔ IsReachedBy rows c.args.placed.preds place) (sym (ap (map (λ (row : Vec ℕ Global). row.items)) c.make_room.ensures.reaching))
    (subst (λ (preds : List ℕ). HasBit c.in_ok-reaching.reaching.items place ↔ IsReachedBy (rows_of c.complete.new.self) preds place) c.as_slice.ensures.events (c.in_ok-reaching.ensures.reaching place))

pub returns-clause-ordered : goal.returns-clause-ordered
returns-clause-ordered c = λ _.
    subst (λ (placing : Placing). IsOrderedNext placing c.args.placed) (ap (λ (placed : Vec Placed Global). placed.items) c.complete.ensures.placed) (c.is_ordered-is_ordered.ensures.ordered c.if-not-is_ordered.false)

pub returns-clause-added : goal.returns-clause-added
returns-clause-added c = λ _.
    let kept = c.put.ensures.graph in
    let before = c.make_room.new.self.placed.items in
    let after = c.put.new.self.placed.items in
    let place : c.len-place.result ≡ length before = omega (arith, c.len-place.ensures) in
    let tree : listed_tree after (suc c.len-place.result) ≡ c.args.placed.tree =
    ap (λ n. listed_tree after (suc n)) place ∙ ap (λ (placing : Placing). listed_tree placing (suc (length before))) c.put.ensures.placed ∙ tree_next before c.args.placed in
    let low : c.len-place.result < length after = omega (arith, place, ap length c.put.ensures.placed, length-append before (c.args.placed ∷ [])) in (
      c.put.ensures.placed ∙ ap (λ (placing : Placing). placing ++ c.args.placed ∷ []) (c.make_room.ensures.placed ∙ ap (λ (placed : Vec Placed Global). placed.items) c.complete.ensures.placed),
      with_points c.put.new.self c.put-2.new.self kept
          (points_put c.put.new.self.hints.points.items c.put-2.new.self.points.items after c.len-place.result c.first_hints-own.result.1 kept.points low (subst (IsPointOf c.first_hints-own.result.1) (sym tree) c.first_hints-own.ensures) c.put-2.ensures.points),
    )
