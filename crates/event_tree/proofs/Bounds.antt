-- The least and the greatest value of a tree bound its values, and each stands at some point.
use Rattle.std.proofs.Common.{◌≡◌, ℕ, ◌+◌, ◌≤◌, inl, inr, min, max, [], ◌∷◌, refl, ap, ◌∙◌, arith}
use Rattle.std.proofs.lemmas.Bool.{cases_lt}
use Rattle.trace_types.specs.clock.Points.{Half, Left, Right, Point, half_of, within_half, at_half}
use Rattle.trace_types.specs.clock.EventTree.{EventTree, Leaf, Node, value, minimum, maximum}

-- what holds on both sides holds on the side of a half
pub on_either_side : (P : ℕ → Type 0) (half : Half) (left right : ℕ) → P left → P right → P (at_half half left right)
on_either_side P Left left right on_left on_right = on_left
on_either_side P Right left right on_left on_right = on_right

pub minimum-le-value : (tree : EventTree) (point : Point) → minimum tree ≤ value tree point
minimum-le-value (Leaf n) point = omega arith
minimum-le-value (Node n left right) point =
    let side : min (minimum left) (minimum right) ≤ at_half (half_of point) (value left (within_half point)) (value right (within_half point)) =
    on_either_side (λ v. min (minimum left) (minimum right) ≤ v) (half_of point) _ _
    (omega (arith, minimum-le-value left (within_half point)))
    (omega (arith, minimum-le-value right (within_half point))) in
    omega (arith, side)

pub value-le-maximum : (tree : EventTree) (point : Point) → value tree point ≤ maximum tree
value-le-maximum (Leaf n) point = omega arith
value-le-maximum (Node n left right) point =
    let side : at_half (half_of point) (value left (within_half point)) (value right (within_half point)) ≤ max (maximum left) (maximum right) =
    on_either_side (λ v. v ≤ max (maximum left) (maximum right)) (half_of point) _ _
    (omega (arith, value-le-maximum left (within_half point)))
    (omega (arith, value-le-maximum right (within_half point))) in
    omega (arith, side)

pub minimum-le-maximum : (tree : EventTree) → minimum tree ≤ maximum tree
minimum-le-maximum tree = omega (arith, minimum-le-value tree [], value-le-maximum tree [])

-- a point where the tree has this value
abbrev pub Reaches : EventTree → ℕ → Type 0
Reaches tree v = (point : Point) × (value tree point ≡ v)

-- what one side reaches, the node reaches above its number
reaches_on : (half : Half) (n : ℕ) {v w : ℕ} (left right : EventTree) → Reaches (at_half half left right) v → v ≡ w → Reaches (Node n left right) (n + w)
reaches_on Left n left right reached same = (Left ∷ reached.0, ap (λ x. n + x) (reached.1 ∙ same))
reaches_on Right n left right reached same = (Right ∷ reached.0, ap (λ x. n + x) (reached.1 ∙ same))

pub reaches_minimum : (tree : EventTree) → Reaches tree (minimum tree)
reaches_minimum (Leaf n) = ([], refl)
reaches_minimum (Node n left right) =
    elim (cases_lt (minimum left) (minimum right)) [
      | inl less ↦ reaches_on Left n left right (reaches_minimum left) (omega arith)
      | inr no_less ↦ reaches_on Right n left right (reaches_minimum right) (omega arith)
    ]

pub reaches_maximum : (tree : EventTree) → Reaches tree (maximum tree)
reaches_maximum (Leaf n) = ([], refl)
reaches_maximum (Node n left right) =
    elim (cases_lt (maximum left) (maximum right)) [
      | inl less ↦ reaches_on Right n left right (reaches_maximum right) (omega arith)
      | inr no_less ↦ reaches_on Left n left right (reaches_maximum left) (omega arith)
    ]
