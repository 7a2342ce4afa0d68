-- Of two trees, one is below the other, or above it at some point.
use Rattle.std.proofs.Common.{ℕ, ◌+◌, ◌<◌, ◌⊎◌, inl, inr, ◌∷◌, arith}
use Rattle.std.proofs.lemmas.Bool.{cases_lt}
use Rattle.trace_types.specs.clock.Points.{Left, Right, Point}
use Rattle.trace_types.specs.clock.EventTree.{EventTree, Leaf, Node, value, minimum, maximum}
use Rattle.event_tree.specs.Comparison.{IsBelow}
use Rattle.event_tree.specs.Lifted.{IsLiftedBelow}
use Rattle.event_tree.specs.Raised.{RisesSomewhere}
use Rattle.event_tree.proofs.Bounds.{reaches_minimum, reaches_maximum}
use Rattle.event_tree.proofs.Walk.{below_from_ranges, below_from_sides}

-- at some point the first tree, lifted, is above the second
abbrev pub IsAboveSomewhere : ℕ → EventTree → ℕ → EventTree → Type 0
IsAboveSomewhere m e n f = (point : Point) × (n + value f point < m + value e point)

-- it is below the second, or above it somewhere
abbrev pub BelowOrAbove : ℕ → EventTree → ℕ → EventTree → Type 0
BelowOrAbove m e n f = IsLiftedBelow m e n f ⊎ IsAboveSomewhere m e n f

module _ (m n a b : ℕ) (l r l' r' : EventTree) where
  from_sides : BelowOrAbove (m + a) l (n + b) l' → BelowOrAbove (m + a) r (n + b) r' → BelowOrAbove m (Node a l r) n (Node b l' r')
  from_sides (inl left) (inl right) = inl (below_from_sides m n a b l r l' r' left right)
  from_sides (inl left) (inr right) = inr (Right ∷ right.0, omega (arith, right.1))
  from_sides (inr left) right = inr (Left ∷ left.0, omega (arith, left.1))

pub lifted_below_or_above : (m n : ℕ) (e f : EventTree) → BelowOrAbove m e n f
lifted_below_or_above m n (Leaf a) f =
    elim (cases_lt (n + minimum f) (m + a)) [
      | inl above ↦ inr (let least = reaches_minimum f in (least.0, omega (arith, least.1)))
      | inr apart ↦ inl (below_from_ranges m n (Leaf a) f apart)
    ]
lifted_below_or_above m n (Node a l r) (Leaf b) =
    elim (cases_lt (n + b) (m + maximum (Node a l r))) [
      | inl above ↦ inr (let greatest = reaches_maximum (Node a l r) in (greatest.0, omega (arith, greatest.1)))
      | inr apart ↦ inl (below_from_ranges m n (Node a l r) (Leaf b) apart)
    ]
lifted_below_or_above m n (Node a l r) (Node b l' r') = from_sides m n a b l r l' r' (lifted_below_or_above (m + a) (n + b) l l') (lifted_below_or_above (m + a) (n + b) r r')

pub below_or_above : (e f : EventTree) → IsBelow e f ⊎ RisesSomewhere f e
below_or_above e f =
    elim (lifted_below_or_above 0 0 e f) [
      | inl below ↦ inl (λ point. omega (arith, below point))
      | inr above ↦ inr (above.0, omega (arith, above.1))
    ]

-- the fact holds or fails
abbrev pub Told : Type 0 → Type 0
Told P = P ⊎ (¬ P)

pub below_told : (e f : EventTree) → Told (IsBelow e f)
below_told e f =
    elim (below_or_above e f) [
      | inl below ↦ inl below
      | inr above ↦ inr (λ below. omega (arith, below above.0, above.1))
    ]
