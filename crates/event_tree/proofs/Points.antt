-- The value at a point whose halves are the bits of a number.
use Rattle.std.proofs.Common.{◌≡◌, ℕ, zero, suc, ◌+◌, ◌*◌, ◌/◌, ◌%◌, ◌^◌, ◌<◌, [], ◌∷◌, refl, sym, ap, ◌∙◌, arith}
use Rattle.std.proofs.lemmas.Nat.{pow_pos}
use Rattle.std.proofs.Math.Nat.{pow-suc}
use Rattle.trace_types.specs.clock.Points.{Left, Right, Point, at_half}
use Rattle.trace_types.specs.clock.EventTree.{EventTree, Leaf, Node, value}
use Rattle.event_tree.specs.PointCode.{half_of_bit, halves_of}
use Rattle.event_tree.proofs.Values.{on_both}

-- half of a number has a bit less
pub halved : (levels number : ℕ) → number < 2 ^ suc levels → number / 2 < 2 ^ levels
halved levels number fits = omega (arith, fits, pow-suc 2 levels)

-- a number that is left alone by so many levels says no more at the next one
pub value-one_more : (levels number : ℕ) (tree : EventTree) → number < 2 ^ levels → value tree (halves_of (suc levels) number) ≡ value tree (halves_of levels number)
unfolding halves_of
value-one_more levels number (Leaf n) fits = refl
value-one_more zero number (Node n l r) fits =
    let none : number ≡ zero = omega (arith, fits) in
    rw none refl
value-one_more (suc levels) number (Node n l r) fits =
    let rest = halved levels number fits in
    ap (λ (v : ℕ). n + v)
    (on_both (λ v w. v ≡ w) (half_of_bit (number % 2)) _ _ _ _ (value-one_more levels (number / 2) l rest) (value-one_more levels (number / 2) r rest))

-- the value of a node at a point is that of one child at the point that half of the number says
pub value-half : (levels number n : ℕ) (l r : EventTree) → number < 2 ^ suc levels → value (Node n l r) (halves_of (suc levels) number)
    ≡ n + at_half (half_of_bit (number % 2)) (value l (halves_of (suc levels) (number / 2))) (value r (halves_of (suc levels) (number / 2)))
unfolding halves_of
value-half levels number n l r fits =
    let rest = halved levels number fits in
    ap (λ (v : ℕ). n + v)
    (on_both (λ v w. v ≡ w) (half_of_bit (number % 2)) _ _ _ _ (let e = value-one_more levels (number / 2) l rest in cc) (let e = value-one_more levels (number / 2) r rest in cc))

-- a step of the walk to a point of 128 levels: what is added up, and what is left of the number
module _ (sum n number : ℕ) (l r : EventTree) (v : ℕ) (fits : number < 2 ^ 128) (adds_up : sum + value (Node n l r) (halves_of 128 number) ≡ v) where
  pub steps_left : number % 2 ≡ 0 → (sum + n) + value l (halves_of 128 (number / 2)) ≡ v
  steps_left bit = omega (arith, rw bit at (value-half 127 number n l r fits), adds_up)

  pub steps_right : number % 2 ≡ 1 → (sum + n) + value r (halves_of 128 (number / 2)) ≡ v
  steps_right bit = omega (arith, rw bit at (value-half 127 number n l r fits), adds_up)

-- the number 0 is the point that goes to the left at each level
pub value-zero : (levels : ℕ) (tree : EventTree) → value tree (halves_of levels 0) ≡ value tree []
unfolding halves_of
value-zero zero tree = refl
value-zero (suc levels) tree = value-one_more levels 0 tree (pow_pos levels) ∙ value-zero levels tree

-- one level more above a point is one bit more of the number, the lowest
module _ (levels number : ℕ) (path : Point) (fits : number < 2 ^ levels) (same : (tree : EventTree) → value tree (halves_of (suc levels) number) ≡ value tree path) where
  value-below : (tree : EventTree) → value tree (halves_of levels number) ≡ value tree path
  value-below tree = sym (value-one_more levels number tree fits) ∙ same tree

  pub value-left_of : (tree : EventTree) → value tree (halves_of (suc levels) (number * 2)) ≡ value tree (Left ∷ path)
  unfolding halves_of
  value-left_of (Leaf n) = refl
  value-left_of (Node n l r) =
      let bit : (number * 2) % 2 ≡ 0 = omega arith in
      let rest : (number * 2) / 2 ≡ number = omega arith in
      rw (bit, rest) (ap (λ (v : ℕ). n + v) (value-below l))

  pub value-right_of : (tree : EventTree) → value tree (halves_of (suc levels) (number * 2 + 1)) ≡ value tree (Right ∷ path)
  unfolding halves_of
  value-right_of (Leaf n) = refl
  value-right_of (Node n l r) =
      let bit : (number * 2 + 1) % 2 ≡ 1 = omega arith in
      let rest : (number * 2 + 1) / 2 ≡ number = omega arith in
      rw (bit, rest) (ap (λ (v : ℕ). n + v) (value-below r))
