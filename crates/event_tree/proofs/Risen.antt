-- Steps of the search for a point at which a lifted tree is above another one.
use Rattle.std.proofs.Common.{◌≡◌, ◌≢◌, ℕ, suc, ◌+◌, ◌-◌, ◌*◌, ◌/◌, ◌%◌, ◌^◌, ◌<◌, ◌≤◌, max, inl, inr, ◌∷◌, Option, Some, None, IfSome, IfNone, refl, sym, ◌∙◌, arith}
use Rattle.std.proofs.lemmas.Bool.{cases_Bool}
use Rattle.std.proofs.lemmas.Nat.{pow_pos}
use Rattle.std.proofs.Math.Nat.{pow-suc, pow-le-pow_right}
use Rattle.trace_types.specs.clock.Points.{Left, Right, Point}
use Rattle.trace_types.specs.clock.Id.{Id, Zero, One, Pair, owns}
use Rattle.trace_types.specs.clock.EventTree.{EventTree, Leaf, Node, value, minimum, maximum}
use Rattle.trace_types.specs.clock.Grow.{root_number, left_of, right_of}
use Rattle.event_tree.specs.Height.{height}
use Rattle.event_tree.specs.PointCode.{halves_of}
use Rattle.event_tree.specs.Raised.{StaysOutside, RisesSomewhere}
use Rattle.event_tree.specs.Risen.{left_id_of, right_id_of, IsRisenAt, RisesWithin, NoneRisen, IsRaisedAt}
use Rattle.event_tree.specs.declared.point.RaisedPoint.{RaisedPoint}
use Rattle.event_tree.proofs.Bounds.{minimum-le-value, value-le-maximum}
use Rattle.event_tree.proofs.Grown.{value-opened}
use Rattle.event_tree.proofs.Walk.{below_from_sides}

-- what is owned of a half is owned at the points of that half
owns-left : (id : Id) (point : Point) → owns id (Left ∷ point) ≡ owns (left_id_of id) point
owns-left Zero point = refl
owns-left One point = refl
owns-left (Pair left right) point = refl

owns-right : (id : Id) (point : Point) → owns id (Right ∷ point) ≡ owns (right_id_of id) point
owns-right Zero point = refl
owns-right One point = refl
owns-right (Pair left right) point = refl

-- a tree of no height has one value
pub flat : (tree : EventTree) → height tree ≡ 0 → maximum tree ≤ minimum tree
flat (Leaf n) low = omega arith
flat (Node n l r) low = absurd (omega arith)

-- the children of a tree as a node are lower, if it has any
pub height-left : (tree : EventTree) → height (left_of tree) ≤ height tree - 1
height-left (Leaf n) = omega arith
height-left (Node n l r) = omega arith

pub height-right : (tree : EventTree) → height (right_of tree) ≤ height tree - 1
height-right (Leaf n) = omega arith
height-right (Node n l r) = omega arith

module _ (m n : ℕ) (e f : EventTree) where
  -- two numbers, of which the second is the greater
  pub risen_flat : (levels : ℕ) → height e ≡ 0 → height f ≡ 0 → m + minimum e < n + maximum f → IsRisenAt levels m e n f 0
  risen_flat levels e_flat f_flat above = record {
    small = pow_pos levels;
    risen = omega (arith, flat e e_flat, flat f f_flat, value-le-maximum e (halves_of levels 0), minimum-le-value f (halves_of levels 0));
  }

  -- what the children on a side say at a point, the trees say at the point in that half
  on_left : (point : Point) → (value e (Left ∷ point) ≡ root_number e + value (left_of e) point) × (value f (Left ∷ point) ≡ root_number f + value (left_of f) point)
  on_left point = (sym (value-opened e (Left ∷ point)), sym (value-opened f (Left ∷ point)))

  on_right : (point : Point) → (value e (Right ∷ point) ≡ root_number e + value (right_of e) point) × (value f (Right ∷ point) ≡ root_number f + value (right_of f) point)
  on_right point = (sym (value-opened e (Right ∷ point)), sym (value-opened f (Right ∷ point)))

  pub within_left : (id : Id) → RisesWithin id m e n f → RisesWithin (left_id_of id) (m + root_number e) (left_of e) (n + root_number f) (left_of f)
  within_left id within point free =
      let at = on_left point in
      omega (arith, at.0, at.1, within (Left ∷ point) (owns-left id point ∙ free))

  pub within_right : (id : Id) → RisesWithin id m e n f → RisesWithin (right_id_of id) (m + root_number e) (right_of e) (n + root_number f) (right_of f)
  within_right id within point free =
      let at = on_right point in
      omega (arith, at.0, at.1, within (Right ∷ point) (owns-right id point ∙ free))

  module _ (levels : ℕ) (some : levels ≢ 0) (halves : ℕ) where
    pub risen_left : IsRisenAt (levels - 1) (m + root_number e) (left_of e) (n + root_number f) (left_of f) halves → IsRisenAt levels m e n f (2 * halves)
    unfolding halves_of
    risen_left found =
        let suc_is : levels ≡ suc (levels - 1) = omega (arith, some) in
        let bit : (2 * halves) % 2 ≡ 0 = omega arith in
        let rest : (2 * halves) / 2 ≡ halves = omega arith in
        let at = on_left (halves_of (levels - 1) halves) in
        rw suc_is (record { small = omega (arith, found.small, pow-suc 2 (levels - 1)); risen = rw (bit, rest) (omega (arith, at.0, at.1, found.risen)) })

    pub risen_right : IsRisenAt (levels - 1) (m + root_number e) (right_of e) (n + root_number f) (right_of f) halves → IsRisenAt levels m e n f (2 * halves + 1)
    unfolding halves_of
    risen_right found =
        let suc_is : levels ≡ suc (levels - 1) = omega (arith, some) in
        let bit : (2 * halves + 1) % 2 ≡ 1 = omega arith in
        let rest : (2 * halves + 1) / 2 ≡ halves = omega arith in
        let at = on_right (halves_of (levels - 1) halves) in
        rw suc_is (record { small = omega (arith, found.small, pow-suc 2 (levels - 1)); risen = rw (bit, rest) (omega (arith, at.0, at.1, found.risen)) })

  -- where neither side has a point, there is none, or the trees are too high
  pub none_risen : (levels : ℕ) → levels ≢ 0
      → NoneRisen (levels - 1) (m + root_number e) (left_of e) (n + root_number f) (left_of f)
      → NoneRisen (levels - 1) (m + root_number e) (right_of e) (n + root_number f) (right_of f)
      → NoneRisen levels m e n f
  none_risen levels some (inr left) right = inr (omega (arith, some, left, height-left e, height-left f))
  none_risen levels some (inl left) (inr right) = inr (omega (arith, some, right, height-right e, height-right f))
  none_risen levels some (inl left) (inl right) =
      let sides = below_from_sides n m (root_number f) (root_number e) (left_of f) (right_of f) (left_of e) (right_of e) left right in
      inl (λ point. omega (arith, sides point, value-opened e point, value-opened f point))

-- what is left of a number of halves is small enough to be doubled
pub doubles : (levels halves : ℕ) → levels ≤ 128 → levels ≢ 0 → halves < 2 ^ (levels - 1) → 2 * halves + 1 < 2 ^ 128
doubles levels halves bound some small =
    let fits : levels - 1 ≤ 127 = omega (arith, bound, some) in
    let bits : 2 ^ (levels - 1) ≤ 2 ^ 127 = pow-le-pow_right (omega arith) fits in
    omega (arith, small, bits)

module _ (id : Id) (before after : EventTree) (outside : StaysOutside id before after) where
  -- a point that is raised is owned, where no other is raised
  pub raised_at : (point : Point) → value before point < value after point → IsRaisedAt id before after point
  raised_at point risen =
      elim (cases_Bool (owns id point)) [
        | inl is ↦ record { owned = is; raised = risen }
        | inr is_not ↦ absurd (omega (arith, outside point is_not, risen))
      ]

  -- so is one that was found
  pub found_at : (found : Option RaisedPoint) → IfSome found (λ raised. value before raised.point < value after raised.point)
      → IfSome found (λ raised. IsRaisedAt id before after raised.point)
  found_at None risen = tt
  found_at (Some raised) risen = raised_at raised.point risen

  -- where some point is raised and none was found, a tree is too high
  pub found_unless_deep : RisesSomewhere before after → (found : Option RaisedPoint) → (RisesWithin id 0 before 0 after → IfNone found (NoneRisen 128 0 before 0 after))
      → IfNone found (128 < max (height before) (height after))
  found_unless_deep rises (Some raised) none = tt
  found_unless_deep rises None none =
      elim (none (λ point free. omega (arith, outside point free))) [
        | inl below ↦ absurd (omega (arith, below rises.0, rises.1))
        | inr deep ↦ deep
      ]
