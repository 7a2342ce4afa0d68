-- Raising the children of a node at points of the halves of an id raises the node at points of the id.
use Rattle.std.proofs.Common.{ℕ, ◌+◌, ◌≤◌, ◌<◌, [], ◌∷◌, inl, inr, refl, arith}
use Rattle.std.proofs.lemmas.Bool.{cases_lt}
use Rattle.trace_types.specs.clock.Points.{Left, Right, half_of, within_half}
use Rattle.trace_types.specs.clock.Id.{Id, One, Pair}
use Rattle.trace_types.specs.clock.EventTree.{EventTree, Leaf, Node, minimum, maximum, IsNormal}
use Rattle.event_tree.specs.Comparison.{IsBelow}
use Rattle.trace_types.specs.clock.Norm.{norm}
use Rattle.event_tree.specs.Raised.{StaysOutside, RisesSomewhere}
use Rattle.event_tree.proofs.Bounds.{minimum-le-value, value-le-maximum, reaches_minimum}
use Rattle.event_tree.proofs.Canonical.{leaf_from_constant}
use Rattle.event_tree.proofs.NormLemmas.{value-norm}
use Rattle.event_tree.proofs.Values.{on_both}

-- only values at points of the id may have risen
pub record IsRaised (id : Id) (before after : EventTree) : Type 0 where
  pub below : IsBelow before after
  pub outside : StaysOutside id before after

pub raised_same : (id : Id) (tree : EventTree) → IsRaised id tree tree
raised_same id tree = record { below = λ point. omega arith; outside = λ point free. refl }

-- below the whole id a number may take the place of a tree that it bounds
pub raised_whole : (tree : EventTree) (n : ℕ) → maximum tree ≤ n → IsRaised One tree (Leaf n)
raised_whole tree n bound = record { below = λ point. omega (arith, value-le-maximum tree point); outside = λ point free. absurd (cc) }

module _ (il ir : Id) (n : ℕ) (l r x y : EventTree) (left : IsRaised il l x) (right : IsRaised ir r y) where
  pub raised_node : IsRaised (Pair il ir) (Node n l r) (Node n x y)
  raised_node = record {
    below = λ point. on_both (λ v w. n + v ≤ n + w) (half_of point) _ _ _ _ (omega (arith, left.below (within_half point))) (omega (arith, right.below (within_half point)));
    outside = outside;
  }
    where
      outside : StaysOutside (Pair il ir) (Node n l r) (Node n x y)
      outside [] free = omega (arith, left.outside [] free)
      outside (Left ∷ point) free = omega (arith, left.outside point free)
      outside (Right ∷ point) free = omega (arith, right.outside point free)

  pub raised_norm : IsNormal x → IsNormal y → IsRaised (Pair il ir) (Node n l r) (norm n x y)
  raised_norm x_normal y_normal =
      let same = value-norm n x y x_normal y_normal in
      record {
        below = λ point. omega (arith, same point, raised_node.below point);
        outside = λ point free. omega (arith, same point, raised_node.outside point free);
      }

-- what rises on one side, the node with it rises
pub rises_left : (n : ℕ) (l r x y : EventTree) → RisesSomewhere l x → RisesSomewhere (Node n l r) (Node n x y)
rises_left n l r x y rises = (Left ∷ rises.0, omega (arith, rises.1))

pub rises_right : (n : ℕ) (l r x y : EventTree) → RisesSomewhere r y → RisesSomewhere (Node n l r) (Node n x y)
rises_right n l r x y rises = (Right ∷ rises.0, omega (arith, rises.1))

pub rises_norm : (n : ℕ) (l r x y : EventTree) → IsNormal x → IsNormal y → RisesSomewhere (Node n l r) (Node n x y) → RisesSomewhere (Node n l r) (norm n x y)
rises_norm n l r x y x_normal y_normal rises = (rises.0, omega (arith, rises.1, value-norm n x y x_normal y_normal rises.0))

-- a normal node's greatest value lies above its least
pub minimum-lt-maximum : (n : ℕ) (left right : EventTree) → IsNormal (Node n left right) → minimum (Node n left right) < maximum (Node n left right)
minimum-lt-maximum n left right normal =
    elim (cases_lt (minimum (Node n left right)) (maximum (Node n left right))) [
      | inl less ↦ less
      | inr no_less ↦
          let tree = Node n left right in
          let flat = leaf_from_constant (minimum tree) tree normal (λ point. omega (arith, minimum-le-value tree point, value-le-maximum tree point)) in
          absurd (cc)
    ]

-- so a number that is at least the greatest rises above it somewhere
pub rises_flat : (n : ℕ) (left right : EventTree) (m : ℕ) → IsNormal (Node n left right) → maximum (Node n left right) ≤ m → RisesSomewhere (Node n left right) (Leaf m)
rises_flat n left right m normal bound =
    let least = reaches_minimum (Node n left right) in
    (least.0, omega (arith, least.1, minimum-lt-maximum n left right normal))
