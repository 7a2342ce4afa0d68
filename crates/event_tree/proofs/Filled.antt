-- Filling raises only points of the id, keeps trees normal and their greatest value, and rises somewhere or changes nothing.
use Rattle.std.proofs.Common.{◌≡◌, ◌≢◌, ℕ, ◌+◌, ◌≤◌, ◌⊎◌, true, ◌||◌, max, inl, inr, refl, arith}
use Rattle.trace_types.specs.clock.Id.{Id, Zero, One, Pair}
use Rattle.trace_types.specs.clock.EventTree.{EventTree, Leaf, Node, minimum, maximum, IsNormal}
use Rattle.trace_types.specs.clock.Norm.{norm}
use Rattle.trace_types.specs.clock.Fill.{node_filled, fill}
use Rattle.event_tree.specs.Filled.{filled_over, is_filled, Rises, GivesFilled}
use Rattle.event_tree.specs.Raised.{RisesSomewhere}
use Rattle.event_tree.specs.declared.ev_tree.filling.Begun.{Begun}
use Rattle.event_tree.specs.declared.ev_tree.filling.Begun.TheVariants.{Unfilled, Filled}
use Rattle.event_tree.proofs.Bounds.{minimum-le-maximum}
use Rattle.event_tree.proofs.Canonical.{same_from_values}
use Rattle.event_tree.proofs.Decided.{below_or_above}
use Rattle.event_tree.proofs.NormLemmas.{normal_norm}
use Rattle.event_tree.proofs.Raising.{IsRaised, raised_same, raised_whole, raised_norm, rises_left, rises_right, rises_norm, rises_flat}
use Rattle.event_tree.proofs.Values.{maximum-norm}

-- a tree in place of another: normal, raised at points of the id, and not above a bound
pub record Fills (id : Id) (before after : EventTree) (bound : ℕ) : Type 0 where
  pub normal : IsNormal after
  pub raised : IsRaised id before after
  pub bounded : maximum after ≤ bound

-- a node filled on both sides is filled
fills_node : (il ir : Id) (n : ℕ) (l r x y : EventTree) (top : ℕ) → Fills il l x top → Fills ir r y top → Fills (Pair il ir) (Node n l r) (norm n x y) (n + top)
fills_node il ir n l r x y top left right = record {
  normal = normal_norm n x y left.normal right.normal;
  raised = raised_norm il ir n l r x y left.raised right.raised left.normal right.normal;
  bounded = omega (arith, maximum-norm n x y left.normal right.normal, left.bounded, right.bounded);
}

-- a child that the id owns whole, raised to its own greatest value or the other's least
fills_whole : (tree other : EventTree) (top : ℕ) → maximum tree ≤ top → maximum other ≤ top → Fills One tree (Leaf (max (maximum tree) (minimum other))) top
fills_whole tree other top bound other_bound = record {
  normal = tt;
  raised = raised_whole tree (max (maximum tree) (minimum other)) (omega arith);
  bounded = omega (arith, minimum-le-maximum other);
}

-- a filled tree is within a greater bound
fills_within : {id : Id} {before after : EventTree} {bound : ℕ} (top : ℕ) → bound ≤ top → Fills id before after bound → Fills id before after top
fills_within top le filled = record { normal = filled.normal; raised = filled.raised; bounded = omega (arith, filled.bounded) }

module _ (n : ℕ) (l r l' r' : EventTree) (top : ℕ) where
  fills_left_whole : (ir : Id) → maximum l ≤ top → Fills ir r r' top → Fills (Pair One ir) (Node n l r) (norm n (Leaf (max (maximum l) (minimum r'))) r') (n + top)
  fills_left_whole ir bound right = fills_node One ir n l r _ r' top (fills_whole l r' top bound right.bounded) right

  fills_right_whole : (il : Id) → maximum r ≤ top → Fills il l l' top → Fills (Pair il One) (Node n l r) (norm n l' (Leaf (max (maximum r) (minimum l')))) (n + top)
  fills_right_whole il bound left = fills_node il One n l r l' _ top left (fills_whole r l' top bound left.bounded)

  fills_filled : (il ir : Id) → maximum l ≤ top → maximum r ≤ top → Fills il l l' top → Fills ir r r' top → Fills (Pair il ir) (Node n l r) (node_filled n il ir l r l' r') (n + top)
  fills_filled One ir l_bound r_bound left right = fills_left_whole ir l_bound right
  fills_filled Zero One l_bound r_bound left right = fills_right_whole Zero r_bound left
  fills_filled (Pair a b) One l_bound r_bound left right = fills_right_whole (Pair a b) r_bound left
  fills_filled Zero Zero l_bound r_bound left right = fills_node Zero Zero n l r l' r' top left right
  fills_filled Zero (Pair c d) l_bound r_bound left right = fills_node Zero (Pair c d) n l r l' r' top left right
  fills_filled (Pair a b) Zero l_bound r_bound left right = fills_node (Pair a b) Zero n l r l' r' top left right
  fills_filled (Pair a b) (Pair c d) l_bound r_bound left right = fills_node (Pair a b) (Pair c d) n l r l' r' top left right

pub fills : (id : Id) (tree : EventTree) → IsNormal tree → Fills id tree (fill id tree) (maximum tree)
fills Zero tree normal = record { normal = normal; raised = raised_same Zero tree; bounded = omega arith }
fills One tree normal = record { normal = tt; raised = raised_whole tree (maximum tree) (omega arith); bounded = omega arith }
fills (Pair il ir) (Leaf n) normal = record { normal = tt; raised = raised_same (Pair il ir) (Leaf n); bounded = omega arith }
fills (Pair il ir) (Node n l r) normal =
    let top = max (maximum l) (maximum r) in
    fills_filled n l r (fill il l) (fill ir r) top il ir (omega arith) (omega arith)
    (fills_within top (omega arith) (fills il l normal.0))
    (fills_within top (omega arith) (fills ir r normal.1))

pub normal_fill : (id : Id) (tree : EventTree) → IsNormal tree → IsNormal (fill id tree)
normal_fill id tree normal = (fills id tree normal).normal

pub maximum-fill-le : (id : Id) (tree : EventTree) → IsNormal tree → maximum (fill id tree) ≤ maximum tree
maximum-fill-le id tree normal = (fills id tree normal).bounded

-- a tree in place of another rises above it somewhere, or is the same
abbrev pub IsOtherwise : EventTree → EventTree → Type 0
IsOtherwise before after = (after ≡ before) ⊎ RisesSomewhere before after

-- as the filled tree does
pub otherwise_fill : (id : Id) (tree : EventTree) → IsNormal tree → IsOtherwise tree (fill id tree)
otherwise_fill id tree normal =
    let filled = fills id tree normal in
    elim (below_or_above (fill id tree) tree) [
      | inl below ↦ inl (same_from_values (fill id tree) tree filled.normal normal (λ point. omega (arith, below point, filled.raised.below point)))
      | inr rises ↦ inr rises
    ]

-- a tree over a normal one, of which a half is filled, rises
module _ (n : ℕ) (l r : EventTree) (normal : IsNormal (Node n l r)) (x y : EventTree) (x_normal : IsNormal x) (y_normal : IsNormal y) where
  pub rises_beside : (left right : Begun) → Rises left l → Rises right r → x ≡ filled_over left l → y ≡ filled_over right r → (is_filled left || is_filled right) ≡ true → RisesSomewhere (Node n l r) (norm n x y)
  rises_beside (Filled a) right on_left on_right x_is y_is some = rises_norm n l r x y x_normal y_normal (rises_left n l r x y (rw x_is on_left))
  rises_beside (Unfilled p) (Filled b) on_left on_right x_is y_is some = rises_norm n l r x y x_normal y_normal (rises_right n l r x y (rw y_is on_right))
  rises_beside (Unfilled p) (Unfilled q) on_left on_right x_is y_is some = absurd (cc)

-- a number that bounds a normal node is given in its place
pub gives_number : (n : ℕ) (l r : EventTree) (m : ℕ) → IsNormal (Node n l r) → maximum (Node n l r) ≤ m → GivesFilled (Filled (Leaf m)) (Node n l r) (Leaf m)
gives_number n l r m normal bound = record { exact = refl; rises = rises_flat n l r m normal bound }

-- halves that the id owns only in part are filled each by itself
pub node_filled-both : (n : ℕ) (il ir : Id) (l r l' r' : EventTree) → il ≢ One → ir ≢ One → node_filled n il ir l r l' r' ≡ norm n l' r'
node_filled-both n One ir l r l' r' left right = absurd (left refl)
node_filled-both n Zero One l r l' r' left right = absurd (right refl)
node_filled-both n (Pair a b) One l r l' r' left right = absurd (right refl)
node_filled-both n Zero Zero l r l' r' left right = refl
node_filled-both n Zero (Pair c d) l r l' r' left right = refl
node_filled-both n (Pair a b) Zero l r l' r' left right = refl
node_filled-both n (Pair a b) (Pair c d) l r l' r' left right = refl

-- a right half that the id owns whole is raised, where it does not own the left one
pub node_filled-right : (n : ℕ) (il : Id) (l r l' r' : EventTree) → il ≢ One → node_filled n il One l r l' r' ≡ norm n l' (Leaf (max (maximum r) (minimum l')))
node_filled-right n One l r l' r' left = absurd (left refl)
node_filled-right n Zero l r l' r' left = refl
node_filled-right n (Pair a b) l r l' r' left = refl
