-- Trees that stand in the order of their events need one look at each pair.
use Rattle.std.proofs.Common.{◌≡◌, ◌↔◌, ℕ, zero, suc, ◌+◌, ◌-◌, ◌<◌, Bool, true, not, ◌&&◌, IsTrue, Option, Some, None, List, [], ◌∷◌, length, get_or, take, map, Ok, sym, ◌∙◌, arith, length-take-le, get_or-take}
use Rattle.std.specs.Global.{Vec}
use Rattle.std.proofs.lemmas.Bool.{false≢true, and_parts, not-true, not_from_false}
use Rattle.std.proofs.lemmas.List.{length-map}
use Rattle.std.proofs.Math.Path.{transport}
use Rattle.trace_types.specs.declared.order.Order.TheVariants.{Before, Concurrent}
use Rattle.trace_types.specs.clock.EventTree.{EventTree, Leaf}
use Rattle.event_tree.specs.Comparison.{IsBelow}
use Rattle.trace_query.specs.Compared.{is_below}
use Rattle.trace_query.specs.declared.compare.Earlier.TheVariants.{First, Second}
use Rattle.trace_query.specs.Deciding.{IsDecidedBy, IsToldBy, DecideInOrder, point_in}
use Rattle.trace_query.specs.Queries.{has_tree, tree_at, StandInOrder, trees_before, ListsExactly}
use Rattle.event_tree.specs.declared.point.RaisedPoint.{RaisedPoint}
use Rattle.trace_query.proofs.ComparedTrees.{is_below_iff}
use Rattle.trace_query.proofs.Listed.{event_bounds, event_from_bounds}
use Rattle.trace_query.proofs.Gathered.{refuted, refuted_by, listed_to, unlisted, found_before, ArePlaced, IsOtherStanding, here, tree_in_place}

-- no later event is in the past, so the list is that of the earlier ones
pub found_earlier : (trees : List EventTree) (event place : ℕ) (events : Vec ℕ) → StandInOrder trees → IsTrue (has_tree trees event) → place ≡ event - 1
    → events.items ≡ listed_to Before trees event place → ListsExactly trees_before trees event (Ok events)
found_earlier trees event place events in_order is last =
    let bounds = event_bounds trees event is in
    found_before Before trees event place events is (omega (arith, bounds.1, last))
    (λ later above within.
    unlisted Before trees event later
    (λ differ stands. in_order event later is (event_from_bounds trees later (omega (arith, above)) within) (omega (arith, bounds.0, above, last, differ)) stands.0))

-- the point of the earlier of two events tells how their trees stand
told_first : (point : Option RaisedPoint) (e f : EventTree) → IsDecidedBy point e f → ¬ IsBelow f e → IsToldBy First point e f
told_first None e f decided apart = tt
told_first (Some deciding) e f decided apart = (decided, apart)

told_second : (point : Option RaisedPoint) (e f : EventTree) → IsDecidedBy point f e → ¬ IsBelow e f → IsToldBy Second point e f
told_second None e f decided apart = tt
told_second (Some deciding) e f decided apart = (decided, apart)

module _ (trees : List EventTree) (points : List (Option RaisedPoint)) (in_order : StandInOrder trees) (decided : DecideInOrder trees points)
    (first second : ℕ) (is_first : IsTrue (has_tree trees first)) (is_second : IsTrue (has_tree trees second)) where
  pub told_by_first : first < second → IsToldBy First (point_in points (first - 1)) (tree_at trees first) (tree_at trees second)
  told_by_first before =
      told_first (point_in points (first - 1)) (tree_at trees first) (tree_at trees second) (decided first second is_first is_second before)
      (in_order first second is_first is_second before)

  pub told_by_second : second < first → IsToldBy Second (point_in points (second - 1)) (tree_at trees first) (tree_at trees second)
  told_by_second before =
      told_second (point_in points (second - 1)) (tree_at trees first) (tree_at trees second) (decided second first is_second is_first before)
      (in_order second first is_second is_first before)

-- what is kept for the earlier events
module _ {K : Type 0} (tree : K → EventTree) (kept : List K) (event : ℕ) (event_is : IsTrue (has_tree (map tree kept) event)) where
  pub earlier_many : length (take (event - 1) kept) ≡ event - 1
  earlier_many =
      let bounds = event_bounds (map tree kept) event event_is in
      length-take-le (event - 1) kept (omega (arith, bounds.0, bounds.1, length-map kept tree))

  pub placed_earlier : (place : ℕ) (other one : K) → other ≡ get_or (take (event - 1) kept) place other → tree one ≡ tree_at (map tree kept) event
      → place < length (take (event - 1) kept) → (place + 1 < event) × ArePlaced tree kept event place other one
  placed_earlier place other one other_is one_is within =
      let bounds = event_bounds (map tree kept) event event_is in
      let before : place < event - 1 = omega (arith, earlier_many, within) in (
        omega (arith, before),
        record {
          other_is = other_is ∙ get_or-take (event - 1) kept place other before;
          one_is = one_is;
          within = omega (arith, before, bounds.1, length-map kept tree);
          event_is = event_is;
        },
      )

module _ {K : Type 0} {tree : K → EventTree} {kept : List K} {event place : ℕ} {other one : K} (placed : ArePlaced tree kept event place other one) (in_order : StandInOrder (map tree kept)) where
  -- the event is not below an earlier one
  not_below_earlier : place + 1 < event → ¬ IsBelow (tree one) (tree other)
  not_below_earlier earlier below =
      in_order (place + 1) event (here placed) placed.event_is earlier (transport (λ i. IsBelow (placed.one_is i) (tree_in_place placed i)) below)

  -- and no later one is below it
  later_not_below : event < place + 1 → ¬ IsBelow (tree other) (tree one)
  later_not_below later below =
      in_order event (place + 1) placed.event_is (here placed) later (transport (λ i. IsBelow (tree_in_place placed i) (placed.one_is i)) below)

  -- so an earlier event is in the past exactly where it is below the event
  pub earlier_before : place + 1 < event → (below : Bool) → (IsTrue below ↔ IsBelow (tree other) (tree one)) → IsTrue below ↔ IsOtherStanding Before tree event place other one
  earlier_before earlier below told = (λ is. ((λ same. omega (arith, same, earlier)), (told.0 is, not_below_earlier earlier)), λ holds. told.1 holds.1.0)

  -- and concurrent with it exactly where it is not
  pub earlier_apart : place + 1 < event → (below : Bool) → (IsTrue below ↔ IsBelow (tree other) (tree one)) → IsTrue (not below) ↔ IsOtherStanding Concurrent tree event place other one
  earlier_apart earlier below told = (
    λ apart. ((λ same. omega (arith, same, earlier)), (refuted_by told (not-true below apart), not_below_earlier earlier)),
    λ holds. not_from_false below (refuted below told.0 holds.1.0),
  )

  -- and a later one exactly where the event is not below it
  pub later_apart : event < place + 1 → (below : Bool) → (IsTrue below ↔ IsBelow (tree one) (tree other)) → IsTrue (not below) ↔ IsOtherStanding Concurrent tree event place other one
  later_apart later below told = (
    λ apart. ((λ same. omega (arith, same, later)), (later_not_below later, refuted_by told (not-true below apart))),
    λ holds. not_from_false below (refuted below told.0 holds.1.1),
  )

module _ {K : Type 0} {tree : K → EventTree} {kept : List K} {event place : ℕ} {other one : K} (placed : ArePlaced tree kept event place other one)
    (points : List (Option RaisedPoint)) (decided : DecideInOrder (map tree kept) points) where
  -- the point of an earlier event decides whether its tree is below that of the event
  pub decided_earlier : place + 1 < event → IsDecidedBy (point_in points place) (tree other) (tree one)
  decided_earlier earlier =
      let back : (place + 1) - 1 ≡ place = omega arith in
      transport (λ i. IsDecidedBy (point_in points (back i)) (sym (tree_in_place placed) i) (sym placed.one_is i)) (decided (place + 1) event (here placed) placed.event_is earlier)

  -- and that of the event whether its tree is below that of a later one
  pub decided_later : event < place + 1 → IsDecidedBy (point_in points (event - 1)) (tree one) (tree other)
  decided_later later =
      transport (λ i. IsDecidedBy (point_in points (event - 1)) (sym placed.one_is i) (sym (tree_in_place placed) i)) (decided event (place + 1) placed.event_is (here placed) later)

-- whether none of these trees is below the first, computed
abbrev none_below : EventTree → List EventTree → Bool
none_below e [] = true
none_below e (f ∷ later) = not (is_below f e) && none_below e later

-- whether the trees stand in order, computed
abbrev pub are_in_order : List EventTree → Bool
are_in_order [] = true
are_in_order (e ∷ later) = none_below e later && are_in_order later

none_below_at : (e : EventTree) (later : List EventTree) → none_below e later ≡ true → (j : ℕ) → j < length later → ¬ IsBelow (get_or later j (Leaf 0)) e
none_below_at e [] none j within = absurd (omega (arith, within))
none_below_at e (f ∷ later) none zero within =
    let parts = and_parts (not (is_below f e)) (none_below e later) none in
    λ below. false≢true (sym (not-true (is_below f e) parts.0) ∙ (is_below_iff f e).1 below)
none_below_at e (f ∷ later) none (suc j) within =
    let parts = and_parts (not (is_below f e)) (none_below e later) none in
    none_below_at e later parts.1 j (omega (arith, within))

in_order_places : (trees : List EventTree) → are_in_order trees ≡ true → (i j : ℕ) → i < j → j < length trees
    → ¬ IsBelow (get_or trees j (Leaf 0)) (get_or trees i (Leaf 0))
in_order_places [] are i j before within = absurd (omega (arith, within))
in_order_places (e ∷ later) are i zero before within = absurd (omega (arith, before))
in_order_places (e ∷ later) are zero (suc j) before within =
    none_below_at e later (and_parts (none_below e later) (are_in_order later) are).0 j (omega (arith, within))
in_order_places (e ∷ later) are (suc i) (suc j) before within =
    in_order_places later (and_parts (none_below e later) (are_in_order later) are).1 i j (omega (arith, before)) (omega (arith, within))

pub stand_in_order : (trees : List EventTree) → are_in_order trees ≡ true → StandInOrder trees
stand_in_order trees are earlier later earlier_is later_is before =
    let low = event_bounds trees earlier earlier_is in
    let high = event_bounds trees later later_is in
    in_order_places trees are (earlier - 1) (later - 1) (omega (arith, low.0, before)) (omega (arith, high.0, high.1))
