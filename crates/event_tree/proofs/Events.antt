-- The event raises some point of the id, no other, and its greatest value by at most one.
use Rattle.std.proofs.Common.{◌≡◌, ◌≢◌, ◌+◌, ◌≤◌, true, ◌==◌, inl, inr, refl, ap, arith}
use Rattle.std.proofs.lemmas.Bool.{cases_Bool, eqb-true, and_parts, eq-eqb}
use Rattle.trace_types.specs.clock.Id.{Id, Zero}
use Rattle.trace_types.specs.clock.Id as ids
use Rattle.trace_types.specs.clock.EventTree.{EventTree, Leaf, Node, value, maximum, IsNormal}
use Rattle.trace_types.specs.clock.Fill.{fill}
use Rattle.trace_types.specs.clock.Grow.{grown}
use Rattle.trace_types.specs.clock.Event.{is_same_tree, normalised, event}
use Rattle.event_tree.specs.Raised.{RisesSomewhere}
use Rattle.event_tree.specs.Tables.{IsPublishedEvent}
use Rattle.event_tree.proofs.Raising.{IsRaised}
use Rattle.event_tree.proofs.Filled.{IsOtherwise, fills, otherwise_fill}
use Rattle.event_tree.proofs.Grown.{raised_grown, maximum-grown-le, rises_grown, cost-some, normal_normalised, value-normalised, maximum-normalised-le}

pub is_same-itself : (tree : EventTree) → is_same_tree tree tree ≡ true
is_same-itself (Leaf n) = eq-eqb n n refl
is_same-itself (Node n l r) = rw (eq-eqb n n refl, is_same-itself l, is_same-itself r) refl

-- the test finds equal trees alone
pub equal_from_is_same : (e f : EventTree) → is_same_tree e f ≡ true → e ≡ f
equal_from_is_same (Leaf m) (Leaf n) same = let number = eqb-true m n same in cc
equal_from_is_same (Leaf m) (Node n l r) same = absurd (cc)
equal_from_is_same (Node m l r) (Leaf n) same = absurd (cc)
equal_from_is_same (Node m l r) (Node n l' r') same =
    let parts = and_parts (m == n) _ same in
    let children = and_parts (is_same_tree l l') (is_same_tree r r') parts.1 in
    let number = eqb-true m n parts.0 in
    let left = equal_from_is_same l l' children.0 in
    let right = equal_from_is_same r r' children.1 in
    cc

-- where filling changes the tree, the event fills
event_by_test : (id : Id) (tree : EventTree) → fill id tree ≢ tree → event id tree ≡ fill id tree
event_by_test id tree differ =
    elim (cases_Bool (is_same_tree (fill id tree) tree)) [
      | inl same ↦ absurd (differ (equal_from_is_same (fill id tree) tree same))
      | inr other ↦ rw other refl
    ]

-- as where it raises some value
pub event_by_fill : (id : Id) (tree : EventTree) → RisesSomewhere tree (fill id tree) → event id tree ≡ fill id tree
event_by_fill id tree rises = event_by_test id tree (λ equal. omega (arith, rises.1, ap (λ (t : EventTree). value t rises.0) equal))

-- and where it does not, it grows
pub event_by_growth : (id : Id) (tree : EventTree) → fill id tree ≡ tree → event id tree ≡ normalised (grown id tree)
event_by_growth id tree same = rw (same, is_same-itself tree) refl

pub is_published_event : IsPublishedEvent
is_published_event = record { filled = event_by_test; grows = event_by_growth }

-- what an event does to a tree
pub record Raises (id : Id) (before after : EventTree) : Type 0 where
  pub normal : IsNormal after
  pub raised : IsRaised id before after
  pub rises : RisesSomewhere before after
  pub bounded : maximum after ≤ maximum before + 1

pub raises_grown : (id : Id) (tree : EventTree) → ids.IsNormalId id → id ≢ Zero → Raises id tree (normalised (grown id tree))
raises_grown id tree id_normal some =
    let raised = raised_grown id tree in
    let risen = rises_grown id tree (cost-some id tree id_normal some) in
    record {
      normal = normal_normalised (grown id tree);
      raised = record {
        below = λ point. omega (arith, value-normalised (grown id tree) point, raised.below point);
        outside = λ point free. omega (arith, value-normalised (grown id tree) point, raised.outside point free);
      };
      rises = (risen.0, omega (arith, risen.1, value-normalised (grown id tree) risen.0));
      bounded = omega (arith, maximum-normalised-le (grown id tree), maximum-grown-le id tree);
    }

raises_filled : (id : Id) (tree : EventTree) → IsOtherwise tree (fill id tree) → ids.IsNormalId id → id ≢ Zero → IsNormal tree → Raises id tree (event id tree)
raises_filled id tree (inl same) id_normal some normal = rw (event_by_growth id tree same) (raises_grown id tree id_normal some)
raises_filled id tree (inr rises) id_normal some normal =
    let filled = fills id tree normal in
    rw (event_by_fill id tree rises) (record { normal = filled.normal; raised = filled.raised; rises = rises; bounded = omega (arith, filled.bounded) })

pub raises_event : (id : Id) (tree : EventTree) → ids.IsNormalId id → id ≢ Zero → IsNormal tree → Raises id tree (event id tree)
raises_event id tree id_normal some normal = raises_filled id tree (otherwise_fill id tree normal) id_normal some normal
