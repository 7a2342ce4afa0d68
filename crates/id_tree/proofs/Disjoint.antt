-- Which ids stay disjoint when ids are split and summed, and that a sum undoes a split.
use Rattle.std.proofs.Common.{◌≡◌, ◌||◌, ◌&&◌, ◌⊎◌, Bool, true, false, refl, sym, ◌∙◌, inl, inr}
use Rattle.trace_types.specs.clock.Points.{Point}
use Rattle.trace_types.specs.clock.Id.{Id, owns, IsNormalId, AreDisjoint}
use Rattle.trace_types.specs.clock.IdOperations.{split, sum}
use Rattle.id_tree.proofs.Ids.{same_points}
use Rattle.id_tree.proofs.Split.{SharesOut-split, IsNormal-split}
use Rattle.id_tree.proofs.Sum.{owns-sum, IsNormal-sum}

-- two truths of which one fails do not both hold
not_both : (x y : Bool) → x && y ≡ false → x ≡ true → y ≡ true → ⊥
not_both true y neither x_is y_is = let clash : true ≡ false = sym y_is ∙ neither in cc
not_both false y neither x_is y_is = cc

-- of two truths of which one holds, the first or the second holds
one_of : (x y : Bool) → x || y ≡ true → (x ≡ true) ⊎ (y ≡ true)
one_of true y either = inl refl
one_of false y either = inr either

-- either truth makes one of two hold
either_true : (x y : Bool) → (x ≡ true → x || y ≡ true) × (y ≡ true → x || y ≡ true)
either_true true y = ((λ is. refl), (λ is. refl))
either_true false y = ((λ is. cc), (λ is. is))

-- the parts of a split are disjoint
pub AreDisjoint-split : (id : Id) → AreDisjoint (split id).0 (split id).1
AreDisjoint-split id point in_first in_second =
    not_both (owns (split id).0 point) (owns (split id).1 point) (SharesOut-split id point).1 in_first in_second

-- each part of a split is disjoint from what the whole was
pub AreDisjoint-parts : (id other : Id) → AreDisjoint id other → AreDisjoint (split id).0 other × AreDisjoint (split id).1 other
AreDisjoint-parts id other disjoint =
    let whole = λ (point : Point). sym (SharesOut-split id point).0 in
    let either = λ (point : Point). either_true (owns (split id).0 point) (owns (split id).1 point) in
    ((λ point in_part. disjoint point (whole point ∙ (either point).0 in_part)), (λ point in_part. disjoint point (whole point ∙ (either point).1 in_part)))

-- a sum is disjoint from what both ids were
pub AreDisjoint-sum : (a b other : Id) → AreDisjoint a other → AreDisjoint b other → AreDisjoint (sum a b) other
AreDisjoint-sum a b other a_disjoint b_disjoint point in_sum in_other =
    elim (one_of (owns a point) (owns b point) (sym (owns-sum a b point) ∙ in_sum)) [
      | inl in_a ↦ a_disjoint point in_a in_other
      | inr in_b ↦ b_disjoint point in_b in_other
    ]

-- the sum of the parts of a split is the whole
pub sum-split : (id : Id) → IsNormalId id → sum (split id).0 (split id).1 ≡ id
sum-split id normal =
    let parts_normal = IsNormal-split id normal in
    same_points (sum (split id).0 (split id).1) id (IsNormal-sum (split id).0 (split id).1 parts_normal.0 parts_normal.1) normal
    (λ point. owns-sum (split id).0 (split id).1 point ∙ (SharesOut-split id point).0)
