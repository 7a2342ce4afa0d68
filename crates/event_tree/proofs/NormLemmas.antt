-- The normal form of a node has the node's values and is normal.
use Rattle.std.proofs.Common.{◌≡◌, ◌≢◌, ℕ, ◌+◌, ◌≤◌, inl, inr, min, refl, ap, arith}
use Rattle.std.proofs.lemmas.Bool.{cases_eq, eq-eqb, ne_eqb}
use Rattle.trace_types.specs.clock.Points.{Half, Left, Right, Point, half_of, within_half, at_half}
use Rattle.trace_types.specs.clock.EventTree.{EventTree, Leaf, Node, value, minimum, maximum, IsNormal}
use Rattle.trace_types.specs.clock.Norm.{lowered, sunk, norm}
use Rattle.event_tree.proofs.Bounds.{on_either_side}

-- the least value of a normal node is its number
pub minimum-node : (n : ℕ) (left right : EventTree) → IsNormal (Node n left right) → minimum (Node n left right) ≡ n
minimum-node n left right normal = omega (arith, normal.2)

pub value-lowered : (m : ℕ) (tree : EventTree) (point : Point) → IsNormal tree → m ≤ minimum tree → value (lowered m tree) point + m ≡ value tree point
value-lowered m (Leaf n) point normal low = omega arith
value-lowered m (Node n left right) point normal low = omega (arith, normal.2)

pub minimum-lowered : (m : ℕ) (tree : EventTree) → IsNormal tree → m ≤ minimum tree → minimum (lowered m tree) + m ≡ minimum tree
minimum-lowered m (Leaf n) normal low = omega arith
minimum-lowered m (Node n left right) normal low = omega (arith, normal.2)

pub maximum-lowered : (m : ℕ) (tree : EventTree) → IsNormal tree → m ≤ minimum tree → maximum (lowered m tree) + m ≡ maximum tree
maximum-lowered m (Leaf n) normal low = omega arith
maximum-lowered m (Node n left right) normal low = omega (arith, normal.2)

pub normal_lowered : (m : ℕ) (tree : EventTree) → IsNormal tree → IsNormal (lowered m tree)
normal_lowered m (Leaf n) normal = tt
normal_lowered m (Node n left right) normal = normal

at_half-add : (half : Half) (m x y x' y' : ℕ) → x + m ≡ x' → y + m ≡ y' → at_half half x y + m ≡ at_half half x' y'
at_half-add Left m x y x' y' left right = left
at_half-add Right m x y x' y' left right = right

value-sunk : (n : ℕ) (left right : EventTree) → IsNormal left → IsNormal right → (point : Point) → value (sunk n left right) point ≡ value (Node n left right) point
value-sunk n left right left_normal right_normal point =
    let m = min (minimum left) (minimum right) in
    let side = at_half-add (half_of point) m _ _ _ _
    (value-lowered m left (within_half point) left_normal (omega arith))
    (value-lowered m right (within_half point) right_normal (omega arith)) in
    omega (arith, side)

least_sunk : (left right : EventTree) → IsNormal left → IsNormal right → let m = min (minimum left) (minimum right) in min (minimum (lowered m left)) (minimum (lowered m right)) ≡ 0
least_sunk left right left_normal right_normal =
    let m = min (minimum left) (minimum right) in
    omega (arith, minimum-lowered m left left_normal (omega arith), minimum-lowered m right right_normal (omega arith))

-- two different numbers are their own normal form but for what is drawn out
pub norm-leaves : (n l r : ℕ) → l ≢ r → norm n (Leaf l) (Leaf r) ≡ sunk n (Leaf l) (Leaf r)
norm-leaves n l r differ = rw (ne_eqb l r differ) refl

norm-leaf : (n l r : ℕ) → l ≡ r → norm n (Leaf l) (Leaf r) ≡ Leaf (n + l)
norm-leaf n l r same = rw (eq-eqb l r same) refl

pub value-norm : (n : ℕ) (left right : EventTree) → IsNormal left → IsNormal right → (point : Point) → value (norm n left right) point ≡ value (Node n left right) point
value-norm n (Leaf l) (Leaf r) left_normal right_normal point =
    elim (cases_eq l r) [
      | inl same ↦ rw (norm-leaf n l r same) (ap (λ v. n + v) (on_either_side (λ v. l ≡ v) (half_of point) l r refl same))
      | inr differ ↦ rw (norm-leaves n l r differ) (value-sunk n (Leaf l) (Leaf r) tt tt point)
    ]
value-norm n (Leaf l) (Node m l' r') left_normal right_normal point = value-sunk n (Leaf l) (Node m l' r') left_normal right_normal point
value-norm n (Node m l' r') right left_normal right_normal point = value-sunk n (Node m l' r') right left_normal right_normal point

pub normal_norm : (n : ℕ) (left right : EventTree) → IsNormal left → IsNormal right → IsNormal (norm n left right)
normal_norm n (Leaf l) (Leaf r) left_normal right_normal =
    elim (cases_eq l r) [
      | inl same ↦ rw (norm-leaf n l r same) tt
      | inr differ ↦ rw (norm-leaves n l r differ) (tt, tt, least_sunk (Leaf l) (Leaf r) tt tt, λ same. differ (omega arith))
    ]
normal_norm n (Leaf l) (Node m l' r') left_normal right_normal =
    let left = Leaf l in
    let right = Node m l' r' in
    let by = min (minimum left) (minimum right) in
    (tt, normal_lowered by right right_normal, least_sunk left right left_normal right_normal, tt)
normal_norm n (Node m l' r') (Leaf r) left_normal right_normal =
    let left = Node m l' r' in
    let right = Leaf r in
    let by = min (minimum left) (minimum right) in
    (normal_lowered by left left_normal, tt, least_sunk left right left_normal right_normal, tt)
normal_norm n (Node m l r) (Node m' l' r') left_normal right_normal =
    let left = Node m l r in
    let right = Node m' l' r' in
    let by = min (minimum left) (minimum right) in
    (normal_lowered by left left_normal, normal_lowered by right right_normal, least_sunk left right left_normal right_normal, tt)
