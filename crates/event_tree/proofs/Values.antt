-- What trees' values say of their greatest values, and what holds on both halves.
use Rattle.std.proofs.Common.{◌≡◌, ℕ, ◌+◌, ◌≤◌, max, arith}
use Rattle.trace_types.specs.clock.Points.{Half, Left, Right, at_half}
use Rattle.trace_types.specs.clock.EventTree.{EventTree, Node, maximum, IsNormal}
use Rattle.event_tree.specs.Comparison.{IsBelow}
use Rattle.trace_types.specs.clock.Norm.{norm}
use Rattle.event_tree.proofs.Bounds.{value-le-maximum, reaches_maximum}
use Rattle.event_tree.proofs.Canonical.{same_from_values}
use Rattle.event_tree.proofs.NormLemmas.{value-norm, normal_norm}

-- what stands between two pairs on either side stands between their halves
pub on_both : (P : ℕ → ℕ → Type 0) (half : Half) (x y x' y' : ℕ) → P x x' → P y y' → P (at_half half x y) (at_half half x' y')
on_both P Left x y x' y' left right = left
on_both P Right x y x' y' left right = right

-- a tree below another has no greater value
pub maximum-le : (e f : EventTree) → IsBelow e f → maximum e ≤ maximum f
maximum-le e f below = let high = reaches_maximum e in omega (arith, high.1, below high.0, value-le-maximum f high.0)

pub maximum-norm : (n : ℕ) (left right : EventTree) → IsNormal left → IsNormal right → maximum (norm n left right) ≡ n + max (maximum left) (maximum right)
maximum-norm n left right left_normal right_normal =
    let same = value-norm n left right left_normal right_normal in
    let one : IsBelow (norm n left right) (Node n left right) = λ point. omega (arith, same point) in
    let other : IsBelow (Node n left right) (norm n left right) = λ point. omega (arith, same point) in
    omega (arith, maximum-le (norm n left right) (Node n left right) one, maximum-le (Node n left right) (norm n left right) other)

-- a normal node is its own normal form
pub norm-normal : (n : ℕ) (left right : EventTree) → IsNormal (Node n left right) → norm n left right ≡ Node n left right
norm-normal n left right normal =
    same_from_values (norm n left right) (Node n left right) (normal_norm n left right normal.0 normal.1) normal (value-norm n left right normal.0 normal.1)
