-- Growing raises only points of the id, by at most one above the greatest value, and some where the id owns any.
use Rattle.std.proofs.Common.{◌≡◌, ◌≢◌, ℕ, ◌+◌, ◌≤◌, true, false, is_some, [], inl, inr, refl, arith}
use Rattle.std.proofs.lemmas.Bool.{cases_Bool}
use Rattle.trace_types.specs.clock.Points.{Point, half_of, within_half}
use Rattle.trace_types.specs.clock.Id.{Id, Zero, One, Pair, AreApart}
use Rattle.trace_types.specs.clock.Id as ids
use Rattle.trace_types.specs.clock.EventTree.{EventTree, Leaf, Node, value, maximum, IsNormal}
use Rattle.event_tree.specs.Comparison.{IsBelow}
use Rattle.trace_types.specs.clock.Grow.{root_number, left_of, right_of, expansion, is_cheaper, cheaper, dearer, cost, grown}
use Rattle.trace_types.specs.clock.Event.{normalised}
use Rattle.event_tree.specs.Raised.{RisesSomewhere}
use Rattle.event_tree.specs.Tables.{IsPublishedGrow}
use Rattle.event_tree.proofs.Bounds.{value-le-maximum, on_either_side}
use Rattle.event_tree.proofs.Canonical.{same_from_values}
use Rattle.event_tree.proofs.NormLemmas.{value-norm, normal_norm}
use Rattle.event_tree.proofs.Raising.{IsRaised, raised_same, raised_whole, raised_node, rises_left, rises_right}
use Rattle.event_tree.proofs.Values.{on_both, maximum-le}
use Rattle.event_tree.proofs.Costs.{side_had, had_either, cheaper_than_none, dearer_twice}

-- the tree as a node
abbrev pub opened : EventTree → EventTree
opened tree = Node (root_number tree) (left_of tree) (right_of tree)

pub value-opened : (tree : EventTree) (point : Point) → value (opened tree) point ≡ value tree point
value-opened (Leaf n) point = omega (arith, on_either_side (λ v. v ≡ 0) (half_of point) 0 0 refl refl)
value-opened (Node n l r) point = refl

pub maximum-opened : (tree : EventTree) → maximum (opened tree) ≡ maximum tree
maximum-opened (Leaf n) = omega arith
maximum-opened (Node n l r) = refl

pub normal_left_of : (tree : EventTree) → IsNormal tree → IsNormal (left_of tree)
normal_left_of (Leaf n) normal = tt
normal_left_of (Node n l r) normal = normal.0

pub normal_right_of : (tree : EventTree) → IsNormal tree → IsNormal (right_of tree)
normal_right_of (Leaf n) normal = tt
normal_right_of (Node n l r) normal = normal.1

-- raised as a node is raised
raised_opened : (id : Id) (tree after : EventTree) → IsRaised id (opened tree) after → IsRaised id tree after
raised_opened id tree after raised = record {
  below = λ point. omega (arith, raised.below point, value-opened tree point);
  outside = λ point free. omega (arith, raised.outside point free, value-opened tree point);
}

pub raised_grown : (id : Id) (tree : EventTree) → IsRaised id tree (grown id tree)
raised_grown Zero tree = raised_same Zero tree
raised_grown One tree = raised_whole tree (maximum tree + 1) (omega arith)
raised_grown (Pair il ir) tree =
    let l = left_of tree in
    let r = right_of tree in
    raised_opened (Pair il ir) tree (grown (Pair il ir) tree)
    (elim (cases_Bool (is_cheaper (cost il l) (cost ir r))) [
      | inl is_so ↦ rw is_so (raised_node il ir (root_number tree) l r (grown il l) r (raised_grown il l) (raised_same ir r))
      | inr is_not ↦ rw is_not (raised_node il ir (root_number tree) l r l (grown ir r) (raised_same il l) (raised_grown ir r))
    ])

pub maximum-grown-le : (id : Id) (tree : EventTree) → maximum (grown id tree) ≤ maximum tree + 1
maximum-grown-le Zero tree = omega arith
maximum-grown-le One tree = omega arith
maximum-grown-le (Pair il ir) tree =
    let l = left_of tree in
    let r = right_of tree in
    elim (cases_Bool (is_cheaper (cost il l) (cost ir r))) [
      | inl is_so ↦ rw is_so (omega (arith, maximum-opened tree, maximum-grown-le il l))
      | inr is_not ↦ rw is_not (omega (arith, maximum-opened tree, maximum-grown-le ir r))
    ]

-- what rises above the tree as a node rises above the tree
rises_opened : (tree after : EventTree) → RisesSomewhere (opened tree) after → RisesSomewhere tree after
rises_opened tree after rises = (rises.0, omega (arith, rises.1, value-opened tree rises.0))

pub rises_grown : (id : Id) (tree : EventTree) → is_some (cost id tree) ≡ true → RisesSomewhere tree (grown id tree)
rises_grown Zero tree had = absurd (cc)
rises_grown One tree had = ([], omega (arith, value-le-maximum tree []))
rises_grown (Pair il ir) tree had =
    let l = left_of tree in
    let r = right_of tree in
    rises_opened tree (grown (Pair il ir) tree)
    (elim (side_had (expansion tree) (cost il l) (cost ir r) had) [
      | inl side ↦ rw side.0 (rises_left (root_number tree) l r (grown il l) r (rises_grown il l side.1))
      | inr side ↦ rw side.0 (rises_right (root_number tree) l r l (grown ir r) (rises_grown ir r side.1))
    ])

-- an id that owns something can grow every tree
pub cost-some : (id : Id) (tree : EventTree) → ids.IsNormalId id → id ≢ Zero → is_some (cost id tree) ≡ true
cost-some Zero tree normal some = absurd (some refl)
cost-some One tree normal some = refl
cost-some (Pair Zero Zero) tree normal some = absurd normal.2
cost-some (Pair Zero One) tree normal some = had_either (expansion tree) (cost Zero (left_of tree)) (cost One (right_of tree)) (inr refl)
cost-some (Pair Zero (Pair a b)) tree normal some = had_either (expansion tree) (cost Zero (left_of tree)) (cost (Pair a b) (right_of tree)) (inr (cost-some (Pair a b) (right_of tree) normal.1 (λ e. cc)))
cost-some (Pair One ir) tree normal some = had_either (expansion tree) (cost One (left_of tree)) (cost ir (right_of tree)) (inl refl)
cost-some (Pair (Pair a b) ir) tree normal some = had_either (expansion tree) (cost (Pair a b) (left_of tree)) (cost ir (right_of tree)) (inl (cost-some (Pair a b) (left_of tree) normal.0 (λ e. cc)))

pub normal_normalised : (tree : EventTree) → IsNormal (normalised tree)
normal_normalised (Leaf n) = tt
normal_normalised (Node n l r) = normal_norm n (normalised l) (normalised r) (normal_normalised l) (normal_normalised r)

pub value-normalised : (tree : EventTree) (point : Point) → value (normalised tree) point ≡ value tree point
value-normalised (Leaf n) point = refl
value-normalised (Node n l r) point =
    let rest = within_half point in
    let side = on_both (λ v w. v ≡ w) (half_of point) (value (normalised l) rest) (value (normalised r) rest) (value l rest) (value r rest) (value-normalised l rest) (value-normalised r rest) in
    omega (arith, value-norm n (normalised l) (normalised r) (normal_normalised l) (normal_normalised r) point, side)

-- a normal tree is its own normal form
pub normalised-normal : (tree : EventTree) → IsNormal tree → normalised tree ≡ tree
normalised-normal tree normal = same_from_values (normalised tree) tree (normal_normalised tree) normal (value-normalised tree)

pub maximum-normalised-le : (tree : EventTree) → maximum (normalised tree) ≤ maximum tree
maximum-normalised-le tree =
    let below : IsBelow (normalised tree) tree = λ point. omega (arith, value-normalised tree point) in
    maximum-le (normalised tree) tree below

-- what is grown on the cheaper side costs a step more than there
grown_left : (il ir : Id) (n : ℕ) (l r : EventTree) → is_cheaper (cost il l) (cost ir r) ≡ true → (grown (Pair il ir) (Node n l r) ≡ Node n (grown il l) r) × (cost (Pair il ir) (Node n l r) ≡ dearer 0 1 (cost il l))
grown_left il ir n l r left = (rw left refl, rw left refl)

grown_right : (il ir : Id) (n : ℕ) (l r : EventTree) → is_cheaper (cost il l) (cost ir r) ≡ false → (grown (Pair il ir) (Node n l r) ≡ Node n l (grown ir r)) × (cost (Pair il ir) (Node n l r) ≡ dearer 0 1 (cost ir r))
grown_right il ir n l r right = (rw right refl, rw right refl)

pub is_published_grow : IsPublishedGrow
is_published_grow = record {
  number = λ n. (refl, refl);
  expanded = λ il ir n. (refl, dearer_twice (cheaper (cost il (Leaf 0)) (cost ir (Leaf 0))));
  left_free = λ ir n l r. (refl, refl);
  right_free = λ il n l r normal some. grown_left il Zero n l r (cheaper_than_none (cost il l) (cost-some il l normal some));
  left_cheaper = grown_left;
  else_right = grown_right;
}
