-- Where a tree grows, a step further up.
use Rattle.std.proofs.Common.{◌≡◌, ◌≢◌, ℕ, suc, ◌+◌, ◌-◌, ◌*◌, ◌/◌, ◌%◌, ◌^◌, ◌<◌, ◌≤◌, max, ◌∷◌, refl, sym, arith}
use Rattle.std.proofs.Math.Nat.{pow-suc, pow-le-pow_right}
use Rattle.trace_types.specs.clock.Points.{Half, Left, Right, Point, at_half}
use Rattle.trace_types.specs.clock.EventTree.{EventTree, Leaf, Node, value, maximum, IsNormal}
use Rattle.trace_types.specs.clock.Norm.{norm}
use Rattle.trace_types.specs.clock.Grow.{root_number, left_of, right_of}
use Rattle.event_tree.specs.Grew.{IsRaisedTo, GrewAt}
use Rattle.event_tree.specs.Height.{height}
use Rattle.event_tree.specs.PointCode.{halves_of}
use Rattle.event_tree.specs.declared.ev_tree.growth.GrownPoint.{GrownPoint}
use Rattle.event_tree.proofs.Bounds.{value-le-maximum}
use Rattle.event_tree.proofs.Grown.{value-opened, maximum-opened, normal_left_of, normal_right_of}
use Rattle.event_tree.proofs.NormLemmas.{norm-leaves, value-norm}
use Rattle.event_tree.proofs.Risen.{height-left, height-right}

-- a tree that is made one number grew at its root
pub grew_whole : (tree : EventTree) (there : GrownPoint) → there.halves ≡ 0 → there.value ≡ maximum tree + 1 → GrewAt 0 tree (Leaf (maximum tree + 1)) there
grew_whole tree there first above = record {
  high = omega arith;
  bounded = omega (arith, above);
  told = λ few. record {
    small = rw first (omega arith);
    raised = λ levels enough. omega (arith, above, value-le-maximum tree (halves_of levels there.halves));
    reached = λ levels enough. sym above;
  };
}

at_half-le : (half : Half) → at_half half 0 1 ≤ 1
at_half-le Left = omega arith
at_half-le Right = omega arith

-- the halves of a number to which a half was set in front
halves_of-in_half : (half : Half) (levels halves more : ℕ) → halves < 2 ^ 127 → more ≡ 2 * (halves % 2 ^ 127) + at_half half 0 1 → halves_of (suc levels) more ≡ half ∷ halves_of levels halves
unfolding halves_of
halves_of-in_half Left levels halves more small is =
    let bit : more % 2 ≡ 0 = omega (arith, is) in
    let rest : more / 2 ≡ halves = omega (arith, is, small) in
    rw (bit, rest) refl
halves_of-in_half Right levels halves more small is =
    let bit : more % 2 ≡ 1 = omega (arith, is) in
    let rest : more / 2 ≡ halves = omega (arith, is, small) in
    rw (bit, rest) refl

-- the child on the side of the half
abbrev pub child_of : Half → EventTree → EventTree
child_of half tree = at_half half (left_of tree) (right_of tree)

-- the tree with another child there, in normal form
abbrev pub with_child : Half → EventTree → EventTree → EventTree
with_child half tree child = norm (root_number tree) (at_half half child (left_of tree)) (at_half half (right_of tree) child)

value-child_of : (half : Half) (tree : EventTree) (point : Point) → value tree (half ∷ point) ≡ root_number tree + value (child_of half tree) point
value-child_of Left tree point = sym (value-opened tree (Left ∷ point))
value-child_of Right tree point = sym (value-opened tree (Right ∷ point))

value-with_child : (half : Half) (tree child : EventTree) (point : Point) → IsNormal tree → IsNormal child → value (with_child half tree child) (half ∷ point) ≡ root_number tree + value child point
value-with_child Left tree child point normal child_normal = value-norm (root_number tree) child (right_of tree) child_normal (normal_right_of tree normal) (Left ∷ point)
value-with_child Right tree child point normal child_normal = value-norm (root_number tree) (left_of tree) child (normal_left_of tree normal) child_normal (Right ∷ point)

maximum-child_of-le : (half : Half) (tree : EventTree) → root_number tree + maximum (child_of half tree) ≤ maximum tree
maximum-child_of-le Left tree = omega (arith, maximum-opened tree)
maximum-child_of-le Right tree = omega (arith, maximum-opened tree)

-- a node over a child that is no number is higher than the child
height-beside : (half : Half) (n : ℕ) (child other : EventTree) → height child ≢ 0 → height child + 1 ≤ height (norm n (at_half half child other) (at_half half other child))
height-beside half n (Leaf v) other some = absurd (some refl)
height-beside Left n (Node m l r) other some = omega arith
height-beside Right n (Node m l r) (Leaf v) some = omega arith
height-beside Right n (Node m l r) (Node k l' r') some = omega arith

-- so is one over 0 and another number
height-numbers : (half : Half) (n v : ℕ) → v ≢ 0 → height (norm n (at_half half (Leaf v) (Leaf 0)) (at_half half (Leaf 0) (Leaf v))) ≡ 1
height-numbers Left n v some = rw (norm-leaves n v 0 some) (omega arith)
height-numbers Right n v some = rw (norm-leaves n 0 v (λ none. some (sym none))) (omega arith)

module _ (half : Half) (steps : ℕ) (tree child : EventTree) (there here : GrownPoint)
    (grew : GrewAt steps (child_of half tree) child there) (value_is : here.value ≡ root_number tree + there.value) where
  bounded_above : here.value ≤ maximum tree + 1
  bounded_above = omega (arith, value_is, grew.bounded, maximum-child_of-le half tree)

  module _ (normal : IsNormal tree) (child_normal : IsNormal child) (halves_is : here.halves ≡ 2 * (there.halves % 2 ^ 127) + at_half half 0 1) (few : steps + 1 ≤ 128) where
    told : IsRaisedTo steps (child_of half tree) child there
    told = grew.told (omega (arith, few))

    small_below : there.halves < 2 ^ 127
    small_below =
        let fits : steps ≤ 127 = omega (arith, few) in
        let bits : 2 ^ steps ≤ 2 ^ 127 = pow-le-pow_right (omega arith) fits in
        omega (arith, told.small, bits)

    begins : (levels : ℕ) → halves_of (suc levels) here.halves ≡ half ∷ halves_of levels there.halves
    begins levels = halves_of-in_half half levels there.halves here.halves small_below halves_is

    pub raised_above : IsRaisedTo (steps + 1) tree (with_child half tree child) here
    raised_above = record {
      small =
          let next : steps + 1 ≡ suc steps = omega arith in
          rw next (omega (arith, halves_is, small_below, told.small, at_half-le half, pow-suc 2 steps));
      raised = λ levels enough.
          let suc_is : levels ≡ suc (levels - 1) = omega (arith, enough) in
          rw (suc_is, begins (levels - 1))
          (omega (arith, value_is, value-child_of half tree (halves_of (levels - 1) there.halves), told.raised (levels - 1) (omega (arith, enough))));
      reached = λ levels enough.
          let suc_is : levels ≡ suc (levels - 1) = omega (arith, enough) in
          rw (suc_is, begins (levels - 1))
          (omega (arith, value_is, value-with_child half tree child (halves_of (levels - 1) there.halves) normal child_normal, told.reached (levels - 1) (omega (arith, enough))));
    }

-- the node over what grew is higher, or the tree was
higher : (half : Half) (steps : ℕ) (tree child : EventTree) (there : GrownPoint) → GrewAt steps (child_of half tree) child there
    → steps + 1 ≤ max (height tree) (height (with_child half tree child))
higher Left steps (Node n l r) (Leaf v) there grew = omega (arith, grew.high)
higher Right steps (Node n l r) (Leaf v) there grew = omega (arith, grew.high)
higher Left steps (Leaf n) (Leaf v) there grew =
    let told = grew.told (omega (arith, grew.high)) in
    omega (arith, grew.high, height-numbers Left n v (omega (arith, told.raised steps (omega arith), told.reached steps (omega arith))))
higher Right steps (Leaf n) (Leaf v) there grew =
    let told = grew.told (omega (arith, grew.high)) in
    omega (arith, grew.high, height-numbers Right n v (omega (arith, told.raised steps (omega arith), told.reached steps (omega arith))))
higher Left steps tree (Node m l r) there grew = omega (arith, grew.high, height-left tree, height-beside Left (root_number tree) (Node m l r) (right_of tree) (omega arith))
higher Right steps tree (Node m l r) there grew = omega (arith, grew.high, height-right tree, height-beside Right (root_number tree) (Node m l r) (left_of tree) (omega arith))

-- what grew on one side grew so in the node
pub grew_above : (half : Half) (steps : ℕ) (tree child : EventTree) (there here : GrownPoint) → IsNormal tree → IsNormal child
    → GrewAt steps (child_of half tree) child there
    → here.halves ≡ 2 * (there.halves % 2 ^ 127) + at_half half 0 1 → here.value ≡ root_number tree + there.value
    → GrewAt (steps + 1) tree (with_child half tree child) here
grew_above half steps tree child there here normal child_normal grew halves_is value_is = record {
  high = higher half steps tree child there grew;
  bounded = bounded_above half steps tree child there here grew value_is;
  told = raised_above half steps tree child there here grew value_is normal child_normal halves_is;
}
