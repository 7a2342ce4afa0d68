-- Normal trees with the same values are the same tree.
use Rattle.std.proofs.Common.{◌≡◌, ℕ, ◌-◌, ◌≤◌, [], ◌∷◌, refl, ap, sym, subst, arith}
use Rattle.trace_types.specs.clock.Points.{Left, Right}
use Rattle.trace_types.specs.clock.EventTree.{EventTree, Leaf, Node, minimum, AreUnequal, IsNormal}
use Rattle.event_tree.specs.Laws.{HaveSameValues}
use Rattle.event_tree.proofs.Bounds.{minimum-le-value, reaches_minimum}

-- a normal tree with one value everywhere is a leaf
pub leaf_from_constant : (c : ℕ) (tree : EventTree) → IsNormal tree → HaveSameValues tree (Leaf c) → tree ≡ Leaf c
leaf_from_constant c (Leaf n) normal same = ap Leaf (same [])
leaf_from_constant c (Node n left right) normal same =
    let left_is : left ≡ Leaf (c - n) = leaf_from_constant (c - n) left normal.0 (λ point. omega (arith, same (Left ∷ point))) in
    let right_is : right ≡ Leaf (c - n) = leaf_from_constant (c - n) right normal.1 (λ point. omega (arith, same (Right ∷ point))) in
    let unequal : AreUnequal (Leaf (c - n)) (Leaf (c - n)) = subst (λ (t : EventTree). AreUnequal (Leaf (c - n)) t) right_is (subst (λ (t : EventTree). AreUnequal t right) left_is normal.3) in
    absurd (unequal refl)

-- the least value follows from the values
minimum-le-minimum : (e f : EventTree) → HaveSameValues e f → minimum e ≤ minimum f
minimum-le-minimum e f same = let least = reaches_minimum f in omega (arith, least.1, same least.0, minimum-le-value e least.0)

-- the numbers of two normal nodes follow from the values
number_from_values : (m n : ℕ) (l r l' r' : EventTree) → IsNormal (Node m l r) → IsNormal (Node n l' r') → HaveSameValues (Node m l r) (Node n l' r') → m ≡ n
number_from_values m n l r l' r' one other same =
    omega (arith, one.2, other.2, minimum-le-minimum (Node m l r) (Node n l' r') same, minimum-le-minimum (Node n l' r') (Node m l r) (λ point. sym (same point)))

pub same_from_values : (e f : EventTree) → IsNormal e → IsNormal f → HaveSameValues e f → e ≡ f
same_from_values (Leaf m) f one other same = sym (leaf_from_constant m f other (λ point. sym (same point)))
same_from_values (Node m l r) (Leaf n) one other same = leaf_from_constant n (Node m l r) one same
same_from_values (Node m l r) (Node n l' r') one other same =
    let number = number_from_values m n l r l' r' one other same in
    let left = same_from_values l l' one.0 other.0 (λ point. omega (arith, number, same (Left ∷ point))) in
    let right = same_from_values r r' one.1 other.1 (λ point. omega (arith, number, same (Right ∷ point))) in
    cc
