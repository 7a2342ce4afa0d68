-- The digits of a number that fits are its text, and the text of a stamp within the bounds spells that stamp.
use Rattle.std.proofs.Common.{◌≡◌, inl, inr, ℕ, ◌+◌, ◌^◌, ◌<◌, ◌≤◌, List, [], ◌∷◌, ◌++◌, length, get_or, refl, sym, ap, subst, arith, rules, Result}
use Rattle.std.specs.Fmt.{decimal}
use Rattle.std.proofs.lemmas.Str.Parse.{IsNumeralModel, numerals_by_fold}
use Rattle.std.proofs.lemmas.Fmt.{decimal-digits_value, digits_decimal, digits_value-decimal, first_decimal, decimal_digit}
use Rattle.std.proofs.lemmas.Bool.{cases_eq}
use Rattle.trace_types.specs.clock.Id.{Id, Zero, One, Pair}
use Rattle.trace_types.specs.clock.Id as ids
use Rattle.trace_types.specs.clock.EventTree.{EventTree, Leaf, Node, maximum, IsNormal}
use Rattle.event_tree.specs.Height.{height}
use Rattle.stamp_codec.specs.StampText.{Written, Number, Fork, HasNumbers, IsWrittenNumber, AreDigits, id_text, tree_text, stamp_as_text, written_text, read_on, number_written, written_tree}
use Rattle.stamp_codec.specs.Faults.{most_nested, greatest_sum, tree_start, IsIdTooDeepAt, IsTreeTooLargeAt, IsTooLargeAt, IsIdNotNormalAt, IsTreeNotNormalAt, IsNotNormalAt}
use Rattle.stamp_codec.proofs.Parts.{first_child, second_child, second_id, AreDigits-number}
use Rattle.stamp_codec.specs.Bounds.{id_height, IsBounded, as_written}
use Rattle.stamp_codec.specs.Reading.{SpellsNormal, GivesStamp}
use Rattle.stamp_codec.specs.declared.reading.StampFault.{StampFault}
use Rattle.stamp_codec.specs.declared.stamp.Stamp.{Stamp}

-- these digits are what std means by digits
pub own : IsNumeralModel AreDigits (read_on 0)
own = numerals_by_fold _ (search rules) read_on (search rules)

-- a number of one digit or more begins with a 0 only if that is all
one_zero : (digits : List ℕ) → IsWrittenNumber digits → (0 < length digits) × (get_or digits 0 0 ≡ 48 → length digits ≡ 1)
one_zero [] number = absurd number
one_zero (d ∷ digits) (inl zero) = (omega arith, λ is. rw zero.1 refl)
one_zero (d ∷ digits) (inr more) = (omega arith, λ is. absurd (omega (arith, is, more.0)))

pub decimal-number : (digits : List ℕ) → IsWrittenNumber digits → number_written digits < 2 ^ 64 → decimal (number_written digits) ≡ digits
decimal-number digits number small = decimal-digits_value own digits (AreDigits-number digits number) (one_zero digits number).0 (one_zero digits number).1 small

-- a tree whose numbers fit is written as its text
pub tree_text-written : (tree : Written) → HasNumbers tree → maximum (written_tree tree) < 2 ^ 64 → tree_text (written_tree tree) ≡ written_text tree
tree_text-written (Number digits) numbers small = decimal-number digits numbers small
tree_text-written (Fork digits left right) numbers small =
    rw (decimal-number digits numbers.0 (omega (arith, small)), tree_text-written left numbers.1 (omega (arith, small)), tree_text-written right numbers.2 (omega (arith, small))) refl

-- digits of which the first is not 0, or which are 0 alone, are a number
is_number : (digits : List ℕ) → AreDigits digits → 48 < get_or digits 0 0 → IsWrittenNumber digits
is_number [] are first = absurd (omega (arith, first))
is_number (d ∷ digits) are first = inr (omega (arith, first), are.1, are.2)

pub number_decimal : (n : ℕ) → n < 2 ^ 64 → IsWrittenNumber (decimal n)
number_decimal n small =
    elim (cases_eq n 0) [
      | inl zero ↦ rw (zero, decimal_digit 0 (omega arith)) (inl (refl, refl))
      | inr some ↦ is_number (decimal n) (digits_decimal own n small) (first_decimal n (omega arith) small)
    ]

-- the tree as it is written is that tree, with its text
pub numbers-written : (tree : EventTree) → maximum tree < 2 ^ 64 → HasNumbers (as_written tree)
numbers-written (Leaf n) small = number_decimal n small
numbers-written (Node n left right) small = (number_decimal n (omega (arith, small)), numbers-written left (omega (arith, small)), numbers-written right (omega (arith, small)))

pub tree_of-written : (tree : EventTree) → maximum tree < 2 ^ 64 → written_tree (as_written tree) ≡ tree
tree_of-written (Leaf n) small = ap (λ k. Leaf k) (digits_value-decimal own n small)
tree_of-written (Node n left right) small =
    rw (digits_value-decimal own n (omega (arith, small)), tree_of-written left (omega (arith, small)), tree_of-written right (omega (arith, small))) refl

pub text-written : (tree : EventTree) → written_text (as_written tree) ≡ tree_text tree
text-written (Leaf n) = refl
text-written (Node n left right) = rw (text-written left, text-written right) refl

-- a low id is not nested too deep
not_deep : (start nested : ℕ) (id : Id) (place : ℕ) → nested + id_height id ≤ most_nested → ¬ IsIdTooDeepAt start nested id place
not_deep start nested Zero place low is = is
not_deep start nested One place low is = is
not_deep start nested (Pair left right) place low (inl own) = omega (arith, low, own.0)
not_deep start nested (Pair left right) place low (inr (inl l)) = not_deep (start + 1) (nested + 1) left place (omega (arith, low)) l
not_deep start nested (Pair left right) place low (inr (inr r)) = not_deep (second_id start left) (nested + 1) right place (omega (arith, low)) r

-- a low tree with a low maximum is not too large
not_large : (start nested sum : ℕ) (tree : EventTree) (place : ℕ) → nested + height tree ≤ most_nested → sum + maximum tree ≤ greatest_sum → ¬ IsTreeTooLargeAt start nested sum (as_written tree) place
not_large start nested sum (Leaf n) place low small is = omega (arith, small, is.0, digits_value-decimal own n (omega (arith, small)))
not_large start nested sum (Node n left right) place low small (inl deep) = omega (arith, low, deep.0)
not_large start nested sum (Node n left right) place low small (inr (inl head)) = omega (arith, small, head.0, digits_value-decimal own n (omega (arith, small)))
not_large start nested sum (Node n left right) place low small (inr (inr (inl l))) =
    not_large (first_child start (decimal n)) (nested + 1) (sum + number_written (decimal n)) left place (omega (arith, low)) (omega (arith, small, digits_value-decimal own n (omega (arith, small)))) l
not_large start nested sum (Node n left right) place low small (inr (inr (inr r))) =
    not_large (second_child start (decimal n) (as_written left)) (nested + 1) (sum + number_written (decimal n)) right place (omega (arith, low)) (omega (arith, small, digits_value-decimal own n (omega (arith, small)))) r

-- a normal id has no fault
no_id_fault : (start : ℕ) (id : Id) (place : ℕ) → ids.IsNormalId id → ¬ IsIdNotNormalAt start id place
no_id_fault start Zero place normal is = is
no_id_fault start One place normal is = is
no_id_fault start (Pair left right) place normal (inl own) = own.0 normal.2
no_id_fault start (Pair left right) place normal (inr (inl l)) = no_id_fault (start + 1) left place normal.0 l
no_id_fault start (Pair left right) place normal (inr (inr r)) = no_id_fault (second_id start left) right place normal.1 r

-- a normal tree has none
no_tree_fault : (start : ℕ) (tree : EventTree) (place : ℕ) → IsNormal tree → maximum tree < 2 ^ 64 → ¬ IsTreeNotNormalAt start (as_written tree) place
no_tree_fault start (Leaf n) place normal small is = is
no_tree_fault start (Node n left right) place normal small (inl (inl some, here)) =
    some (rw (tree_of-written left (omega (arith, small)), tree_of-written right (omega (arith, small))) normal.2)
no_tree_fault start (Node n left right) place normal small (inl (inr same, here)) =
    same (rw (tree_of-written left (omega (arith, small)), tree_of-written right (omega (arith, small))) normal.3)
no_tree_fault start (Node n left right) place normal small (inr (inl l)) = no_tree_fault (first_child start (decimal n)) left place normal.0 (omega (arith, small)) l
no_tree_fault start (Node n left right) place normal small (inr (inr r)) = no_tree_fault (second_child start (decimal n) (as_written left)) right place normal.1 (omega (arith, small)) r

-- the whole stamp
not_too_large : (stamp : Stamp) → IsBounded stamp → (place : ℕ) → ¬ IsTooLargeAt stamp.id (as_written stamp.tree) place
not_too_large stamp bounded place (inl deep) = not_deep 1 0 stamp.id place (omega (arith, bounded.id_nesting)) deep
not_too_large stamp bounded place (inr large) = not_large (tree_start stamp.id) 0 0 stamp.tree place (omega (arith, bounded.tree_nesting)) (omega (arith, bounded.sums)) large

normal_everywhere : (stamp : Stamp) → IsBounded stamp → (place : ℕ) → ¬ IsNotNormalAt stamp.id (as_written stamp.tree) place
normal_everywhere stamp bounded place (inl fault) = no_id_fault 1 stamp.id place bounded.id_normal fault
normal_everywhere stamp bounded place (inr fault) = no_tree_fault (tree_start stamp.id) stamp.tree place bounded.tree_normal (omega (arith, bounded.sums)) fault

pub text_spells : (stamp : Stamp) → IsBounded stamp → SpellsNormal (stamp_as_text stamp) stamp.id (as_written stamp.tree)
text_spells stamp bounded = record {
  within = record {
    spells = record {
      numbers = numbers-written stamp.tree (omega (arith, bounded.sums));
      whole = ap (λ t. 91 ∷ (id_text stamp.id ++ (59 ∷ (t ++ (93 ∷ []))))) (sym (text-written stamp.tree));
    };
    bounded = not_too_large stamp bounded;
  };
  normal = normal_everywhere stamp bounded;
}

pub text_is : (stamp : Stamp) → IsBounded stamp → SpellsNormal (stamp_as_text stamp) stamp.id (as_written stamp.tree) × (written_tree (as_written stamp.tree) ≡ stamp.tree)
text_is stamp bounded = (text_spells stamp bounded, tree_of-written stamp.tree (omega (arith, bounded.sums)))

-- a text that is that of the stamp spells it
pub spells_again : (text : List ℕ) (stamp : Stamp) → IsBounded stamp → text ≡ stamp_as_text stamp → SpellsNormal text stamp.id (as_written stamp.tree)
spells_again text stamp bounded whole = subst (λ (t : List ℕ). SpellsNormal t stamp.id (as_written stamp.tree)) (sym whole) (text_spells stamp bounded)

-- and gives it
pub gives_again : (result : Result Stamp StampFault) (stamp : Stamp) → IsBounded stamp → GivesStamp result stamp.id (written_tree (as_written stamp.tree)) → GivesStamp result stamp.id stamp.tree
gives_again result stamp bounded gives = subst (λ (tree : EventTree). GivesStamp result stamp.id tree) (tree_of-written stamp.tree (omega (arith, bounded.sums))) gives
