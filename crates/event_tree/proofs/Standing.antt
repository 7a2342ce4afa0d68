-- Two trees stand to each other in exactly one way.
use Rattle.std.proofs.Common.{◌≡◌, ℕ, ◌≤◌, ◌<◌, ◌↔◌, inl, inr, refl, subst, [], arith}
use Rattle.trace_types.specs.declared.order.Order.{Order}
use Rattle.trace_types.specs.declared.order.Order.TheVariants.{Same, Before, After, Concurrent}
use Rattle.trace_types.specs.clock.EventTree.{EventTree, Leaf, IsNormal}
use Rattle.event_tree.specs.Comparison.{IsBelow, StandsAs}
use Rattle.event_tree.proofs.Canonical.{same_from_values}
use Rattle.event_tree.proofs.Decided.{Told, below_told}

pub stand_somehow : (e f : EventTree) → (order : Order) × StandsAs order e f
stand_somehow e f = by_cases (below_told e f) (below_told f e)
  where
    by_cases : Told (IsBelow e f) → Told (IsBelow f e) → (order : Order) × StandsAs order e f
    by_cases (inl below) (inl above) = (Same, (below, above))
    by_cases (inl below) (inr not_above) = (Before, (below, not_above))
    by_cases (inr not_below) (inl above) = (After, (not_below, above))
    by_cases (inr not_below) (inr not_above) = (Concurrent, (not_below, not_above))

pub stand_one_way : (e f : EventTree) (order other : Order) → StandsAs order e f → StandsAs other e f → order ≡ other
stand_one_way e f Same Same one two = refl
stand_one_way e f Same Before one two = absurd (two.1 one.1)
stand_one_way e f Same After one two = absurd (two.0 one.0)
stand_one_way e f Same Concurrent one two = absurd (two.0 one.0)
stand_one_way e f Before Same one two = absurd (one.1 two.1)
stand_one_way e f Before Before one two = refl
stand_one_way e f Before After one two = absurd (two.0 one.0)
stand_one_way e f Before Concurrent one two = absurd (two.0 one.0)
stand_one_way e f After Same one two = absurd (one.0 two.0)
stand_one_way e f After Before one two = absurd (one.0 two.0)
stand_one_way e f After After one two = refl
stand_one_way e f After Concurrent one two = absurd (two.1 one.1)
stand_one_way e f Concurrent Same one two = absurd (one.0 two.0)
stand_one_way e f Concurrent Before one two = absurd (one.0 two.0)
stand_one_way e f Concurrent After one two = absurd (one.1 two.1)
stand_one_way e f Concurrent Concurrent one two = refl

pub stands_same : (tree : EventTree) → StandsAs Same tree tree
stands_same tree = (λ point. omega arith, λ point. omega arith)

pub same_is_equal : (e f : EventTree) → IsNormal e → IsNormal f → StandsAs Same e f ↔ (e ≡ f)
same_is_equal e f one other =
    (λ stands. same_from_values e f one other (λ point. omega (arith, stands.0 point, stands.1 point)), λ same. subst (λ (t : EventTree). StandsAs Same e t) same (stands_same e))

-- two leaves stand as their numbers
pub below_leaves : (m n : ℕ) → IsBelow (Leaf m) (Leaf n) ↔ (m ≤ n)
below_leaves m n = (λ below. below [], λ le point. le)

pub leaves_before : (m n : ℕ) → m < n → StandsAs Before (Leaf m) (Leaf n)
leaves_before m n less = (λ point. omega arith, λ above. omega (arith, above []))

pub leaves_after : (m n : ℕ) → n < m → StandsAs After (Leaf m) (Leaf n)
leaves_after m n more = (λ below. omega (arith, below []), λ point. omega arith)
