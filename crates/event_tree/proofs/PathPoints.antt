-- The point of a path: its levels from the lowest up as the bits of a number, with the uppermost as the lowest.
use Rattle.std.proofs.Common.{◌≡◌, ℕ, suc, Bool, true, false, List, [], ◌∷◌, ◌++◌, ◌+◌, ◌*◌, ◌^◌, ◌<◌, ◌≤◌, length, slice_index_or, take, take-suc, sym, ap, ◌∙◌, arith}
use Rattle.std.proofs.Math.Nat.{pow-le-pow_right}
use Rattle.trace_types.specs.clock.EventTree.{EventTree, value}
use Rattle.event_tree.specs.PathCode.{half_on, point_of}
use Rattle.event_tree.specs.PointCode.{halves_of}
use Rattle.event_tree.proofs.Paths.{point_of-more}
use Rattle.event_tree.proofs.Points.{value-left_of, value-right_of}

module _ (rights : List Bool) (level : ℕ) (within : level < length rights) where
  one_more : (right : Bool) → slice_index_or rights level false ≡ right → point_of (take (level + 1) rights) ≡ half_on right ∷ point_of (take level rights)
  one_more right is =
      let next : level + 1 ≡ suc level = omega arith in
      ap point_of (ap (λ n. take n rights) next ∙ take-suc rights level false within ∙ ap (λ step. take level rights ++ step ∷ []) is) ∙ point_of-more (take level rights) right

  module _ (low : level ≤ 127) (number : ℕ) (small : number < 2 ^ level) (same : (tree : EventTree) → value tree (halves_of 128 number) ≡ value tree (point_of (take level rights))) where
    pub fits : number < 2 ^ 127
    fits =
        let bits : 2 ^ level ≤ 2 ^ 127 = pow-le-pow_right (omega arith) low in
        omega (arith, bits, small)

    pub leads_left : slice_index_or rights level false ≡ false → (tree : EventTree) → value tree (halves_of 128 (number * 2)) ≡ value tree (point_of (take (level + 1) rights))
    leads_left is tree = value-left_of 127 number (point_of (take level rights)) fits same tree ∙ ap (value tree) (sym (one_more false is))

    pub leads_right : slice_index_or rights level false ≡ true → (tree : EventTree) → value tree (halves_of 128 (number * 2 + 1)) ≡ value tree (point_of (take (level + 1) rights))
    leads_right is tree = value-right_of 127 number (point_of (take level rights)) fits same tree ∙ ap (value tree) (sym (one_more true is))
