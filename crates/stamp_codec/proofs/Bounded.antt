-- What a text without faults spells is a stamp within the bounds.
use Rattle.std.proofs.Common.{◌≡◌, inl, inr, ℕ, ◌+◌, ◌≤◌, min, List, [], ◌∷◌, ◌++◌, refl, sym, ap, ◌∙◌, arith}
use Rattle.std.proofs.lemmas.Bool.{cases_eq, cases_lt}
use Rattle.trace_types.specs.clock.Id.{Id, Zero, One, Pair, AreApart, IsNormalId}
use Rattle.trace_types.specs.clock.EventTree.{EventTree, Leaf, Node, minimum, maximum, AreUnequal, IsNormal}
use Rattle.stamp_codec.specs.StampText.{Written, Number, Fork, written_tree, number_written, id_text}
use Rattle.stamp_codec.specs.Bounds.{IsBounded, SpellsNothing}
use Rattle.stamp_codec.specs.Faults.{greatest_sum, tree_start, IsIdNotNormalAt, IsTreeTooLargeAt, IsTreeNotNormalAt}
use Rattle.stamp_codec.specs.Reading.{SpellsNormal}
use Rattle.stamp_codec.specs.declared.stamp.Stamp.{Stamp}
use Rattle.stamp_codec.proofs.Depths.{low_stamp}
use Rattle.stamp_codec.proofs.Parts.{second_id, first_child, second_child}
use Rattle.stamp_codec.proofs.RoundTrip.{tree_text-written}

-- halves that are not the same leaf
apart : (left right : Id) → ¬ ¬ AreApart left right → AreApart left right
apart Zero Zero is = is (λ apart. apart)
apart One One is = is (λ apart. apart)
apart Zero One is = tt
apart Zero (Pair l r) is = tt
apart One Zero is = tt
apart One (Pair l r) is = tt
apart (Pair l r) right is = tt

-- an id without a fault is normal
normal_id : (start : ℕ) (id : Id) → ((place : ℕ) → ¬ IsIdNotNormalAt start id place) → IsNormalId id
normal_id start Zero none = tt
normal_id start One none = tt
normal_id start (Pair left right) none = (
  normal_id (start + 1) left (λ place is. none place (inr (inl is))),
  normal_id (second_id start left) right (λ place is. none place (inr (inr is))),
  apart left right (λ same. none start (inl (same, refl))),
)

-- children that are not equal numbers
unequal : (left right : EventTree) → ¬ ¬ AreUnequal left right → AreUnequal left right
unequal (Leaf m) (Leaf n) is = λ same. is (λ differs. differs same)
unequal (Leaf m) (Node n l r) is = tt
unequal (Node m l r) right is = tt

-- a tree without a fault is normal
normal_tree : (start : ℕ) (tree : Written) → ((place : ℕ) → ¬ IsTreeNotNormalAt start tree place) → IsNormal (written_tree tree)
normal_tree start (Number digits) none = tt
normal_tree start (Fork digits left right) none =
    let least : min (minimum (written_tree left)) (minimum (written_tree right)) ≡ 0 =
    elim (cases_eq (min (minimum (written_tree left)) (minimum (written_tree right))) 0) [ inl zero ↦ zero | inr some ↦ absurd (none start (inl (inl some, refl))) ] in (
      normal_tree (first_child start digits) left (λ place is. none place (inr (inl is))),
      normal_tree (second_child start digits left) right (λ place is. none place (inr (inr is))),
      least,
      unequal (written_tree left) (written_tree right) (λ same. none start (inl (inr same, refl))),
    )

-- a tree that is nowhere too large has no value above the bound
small_tree : (start nested sum : ℕ) (tree : Written) → ((place : ℕ) → ¬ IsTreeTooLargeAt start nested sum tree place) → sum + maximum (written_tree tree) ≤ greatest_sum
small_tree start nested sum (Number digits) none = elim (cases_lt greatest_sum (sum + number_written digits)) [ inl large ↦ absurd (none start (large, refl)) | inr small ↦ small ]
small_tree start nested sum (Fork digits left right) none =
    let one = small_tree (first_child start digits) (nested + 1) (sum + number_written digits) left (λ place is. none place (inr (inr (inl is)))) in
    let other = small_tree (second_child start digits left) (nested + 1) (sum + number_written digits) right (λ place is. none place (inr (inr (inr is)))) in
    omega (arith, one, other)

-- the stamp that is spelled
abbrev pub spelled : Id → Written → Stamp
spelled id tree = record { id = id; tree = written_tree tree }

-- a text that spells a normal stamp spells one within the bounds
pub spells_something : (text : List ℕ) (id : Id) (tree : Written) → SpellsNormal text id tree → ¬ SpellsNothing text
spells_something text id tree spells nothing =
    let nesting = low_stamp id tree spells.within.bounded in
    let sums = small_tree (tree_start id) 0 0 tree (λ place is. spells.within.bounded place (inr is)) in
    let bounded : IsBounded (spelled id tree) = record {
      id_normal = normal_id 1 id (λ place is. spells.normal place (inl is));
      tree_normal = normal_tree (tree_start id) tree (λ place is. spells.normal place (inr is));
      id_nesting = omega (arith, nesting);
      tree_nesting = omega (arith, nesting);
      sums = omega (arith, sums);
    } in
    nothing (spelled id tree) bounded
    (spells.within.spells.whole ∙ ap (λ t. 91 ∷ (id_text id ++ (59 ∷ (t ++ (93 ∷ []))))) (sym (tree_text-written tree spells.within.spells.numbers (omega (arith, sums)))))
