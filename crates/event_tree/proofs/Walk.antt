-- What a step of the comparison walk decides, in each direction.
use Rattle.std.proofs.Common.{◌≡◌, ℕ, ◌+◌, ◌≤◌, ◌↔◌, ◌⊎◌, inl, inr, Bool, true, false, IsTrue, [], ◌∷◌, sym, ap, ◌∙◌, arith}
use Rattle.std.proofs.lemmas.Bool.{false≢true}
use Rattle.trace_types.specs.clock.Points.{Half, Left, Right, at_half}
use Rattle.trace_types.specs.clock.EventTree.{EventTree, Node, minimum, maximum}
use Rattle.event_tree.specs.Lifted.{IsLiftedBelow}
use Rattle.event_tree.specs.Ranges.{range_of, IsRangeBelow, CanBeBelow}
use Rattle.event_tree.specs.declared.ev_tree.comparison.Range.{Range}
use Rattle.event_tree.proofs.Bounds.{minimum-le-value, value-le-maximum, reaches_minimum, reaches_maximum}

pub ranges_from_below : (m n : ℕ) (e f : EventTree) → IsLiftedBelow m e n f → CanBeBelow (range_of m e) (range_of n f)
ranges_from_below m n e f below =
    let low = reaches_minimum f in
    let high = reaches_maximum e in
    (omega (arith, low.1, minimum-le-value e low.0, below low.0), omega (arith, high.1, value-le-maximum f high.0, below high.0))

pub below_from_ranges : (m n : ℕ) (e f : EventTree) → IsRangeBelow (range_of m e) (range_of n f) → IsLiftedBelow m e n f
below_from_ranges m n e f apart point = omega (arith, value-le-maximum e point, minimum-le-value f point)

module _ (m n a b : ℕ) (l r l' r' : EventTree) where
  -- of two nodes where one is below the other, so are the children on either side
  pub below_on : (half : Half) → IsLiftedBelow m (Node a l r) n (Node b l' r') → IsLiftedBelow (m + a) (at_half half l r) (n + b) (at_half half l' r')
  below_on Left below point = omega (arith, below (Left ∷ point))
  below_on Right below point = omega (arith, below (Right ∷ point))

  pub below_from_sides : IsLiftedBelow (m + a) l (n + b) l' → IsLiftedBelow (m + a) r (n + b) r' → IsLiftedBelow m (Node a l r) n (Node b l' r')
  below_from_sides left right [] = omega (arith, left [])
  below_from_sides left right (Left ∷ point) = omega (arith, left point)
  below_from_sides left right (Right ∷ point) = omega (arith, right point)

-- two nodes, with their numbers and children
pub record AreNodes (e f : EventTree) (a b : ℕ) (l r l' r' : EventTree) : Type 0 where
  pub one : e ≡ Node a l r
  pub other : f ≡ Node b l' r'

pub are_nodes_swapped : {e f : EventTree} {a b : ℕ} {l r l' r' : EventTree} → AreNodes e f a b l r l' r' → AreNodes f e b a l' r' l r
are_nodes_swapped nodes = record { one = nodes.other; other = nodes.one }

-- two nodes
module _ (m n : ℕ) (e f : EventTree) {a b : ℕ} {l r l' r' : EventTree} (nodes : AreNodes e f a b l r l' r') where
  -- are not below one another where the left side is not
  pub not_below_by_left : (left : Bool) → (IsTrue left ↔ IsLiftedBelow (m + a) l (n + b) l') → left ≡ false → IsTrue left ↔ IsLiftedBelow m e n f
  not_below_by_left left on_left fails =
      (λ is. absurd (false≢true (sym fails ∙ is)), λ below. on_left.1 (below_on m n a b l r l' r' Left (rw (nodes.one, nodes.other) at below)))

  -- they stand as both sides do
  pub below_by_sides : (held : Bool) → (IsTrue held ↔ (IsLiftedBelow (m + a) l (n + b) l' × IsLiftedBelow (m + a) r (n + b) r')) → IsTrue held ↔ IsLiftedBelow m e n f
  below_by_sides held sides = (
    λ is. let both = sides.0 is in rw (nodes.one, nodes.other) (below_from_sides m n a b l r l' r' both.0 both.1),
    λ below. let nodes_below = rw (nodes.one, nodes.other) at below in sides.1 (below_on m n a b l r l' r' Left nodes_below, below_on m n a b l r l' r' Right nodes_below),
  )

  -- and else stand as the right side does
  pub below_by_right : (left right : Bool) → (IsTrue left ↔ IsLiftedBelow (m + a) l (n + b) l') → left ≡ true → (IsTrue right ↔ IsLiftedBelow (m + a) r (n + b) r') → IsTrue right ↔ IsLiftedBelow m e n f
  below_by_right left right on_left holds on_right = (
    λ is. rw (nodes.one, nodes.other) (below_from_sides m n a b l r l' r' (on_left.0 holds) (on_right.0 is)),
    λ below. on_right.1 (below_on m n a b l r l' r' Right (rw (nodes.one, nodes.other) at below)),
  )

-- trees with one range of which one is flat are below one another
pub below_flat : (m n : ℕ) (e f : EventTree) → range_of m e ≡ range_of n f → (m + maximum e ≤ m + minimum e) ⊎ (n + maximum f ≤ n + minimum f) → IsLiftedBelow m e n f
below_flat m n e f same flat = below_from_ranges m n e f (let low = ap Range.low same in let high = ap Range.high same in elim flat [ inl one ↦ omega (arith, one, low, high) | inr other ↦ omega (arith, other, low, high) ])
