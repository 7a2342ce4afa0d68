-- A text spells one id and one tree.
use Rattle.std.proofs.Common.{◌≡◌, ℕ, ◌≤◌, List, [], ◌∷◌, ◌++◌, refl, sym, ap, subst, ◌∙◌, arith}
use Rattle.trace_types.specs.clock.Id.{Id, Zero, One, Pair}
use Rattle.stamp_codec.specs.StampText.{Written, Number, Fork, HasNumbers, AreDigits, IsWrittenNumber, SpellsStamp, id_text, written_text}
use Rattle.stamp_codec.specs.Looks.{EndsDigits}
use Rattle.stamp_codec.proofs.Parts.{heads, pair_text-append, number_first, AreDigits-number, fork_behind, comma_ends, end_ends}

-- no id begins another
pub id_once : (a b : Id) (x y : List ℕ) → id_text a ++ x ≡ id_text b ++ y → (a ≡ b) × (x ≡ y)
id_once Zero Zero x y same = (refl, (heads 48 48 x y same).1)
id_once One One x y same = (refl, (heads 49 49 x y same).1)
id_once Zero One x y same = absurd (omega (arith, (heads 48 49 x y same).0))
id_once One Zero x y same = absurd (omega (arith, (heads 49 48 x y same).0))
id_once Zero (Pair l r) x y same = absurd (omega (arith, (heads 48 40 _ _ same).0))
id_once One (Pair l r) x y same = absurd (omega (arith, (heads 49 40 _ _ same).0))
id_once (Pair l r) Zero x y same = absurd (omega (arith, (heads 40 48 _ _ same).0))
id_once (Pair l r) One x y same = absurd (omega (arith, (heads 40 49 _ _ same).0))
id_once (Pair l r) (Pair l' r') x y same =
    let behind = sym (pair_text-append (id_text l) (id_text r) x) ∙ (heads 40 40 _ _ same).1 ∙ pair_text-append (id_text l') (id_text r') y in
    let left = id_once l l' _ _ behind in
    let right = id_once r r' _ _ (heads 44 44 _ _ left.1).1 in
    let whole : Pair l r ≡ Pair l' r' = cc (left.0, right.0) in
    (whole, (heads 41 41 x y right.1).1)

-- no digits begin others, where no digit follows
digits_once : (a b x y : List ℕ) → AreDigits a → AreDigits b → EndsDigits x → EndsDigits y → a ++ x ≡ b ++ y → (a ≡ b) × (x ≡ y)
digits_once [] [] x y are others ends stops same = (refl, same)
digits_once [] (d ∷ b) x y are others ends stops same = absurd ((subst EndsDigits same ends) (others.0, others.1))
digits_once (c ∷ a) [] x y are others ends stops same = absurd ((subst EndsDigits (sym same) stops) (are.0, are.1))
digits_once (c ∷ a) (d ∷ b) x y are others ends stops same =
    let h = heads c d _ _ same in
    let once = digits_once a b x y are.2 others.2 ends stops h.1 in
    (cc (h.0, once.0), once.1)

-- no number begins another
pub numbers_once : (a b x y : List ℕ) → IsWrittenNumber a → IsWrittenNumber b → EndsDigits x → EndsDigits y → a ++ x ≡ b ++ y → (a ≡ b) × (x ≡ y)
numbers_once a b x y number other = digits_once a b x y (AreDigits-number a number) (AreDigits-number b other)

-- no number begins as a node does
pub number_not_fork : (digits x y : List ℕ) → IsWrittenNumber digits → digits ++ x ≡ 40 ∷ y → ⊥
number_not_fork [] x y number same = number
number_not_fork (d ∷ digits) x y number same = number_first d digits number (heads d 40 (digits ++ x) y same).0

-- no tree begins another, where no digit follows
pub tree_once : (a b : Written) (x y : List ℕ) → HasNumbers a → HasNumbers b → EndsDigits x → EndsDigits y → written_text a ++ x ≡ written_text b ++ y → (a ≡ b) × (x ≡ y)
tree_once (Number m) (Number n) x y numbers others ends stops same =
    let once = numbers_once m n x y numbers others ends stops same in
    (ap (λ digits. Number digits) once.0, once.1)
tree_once (Number m) (Fork n l r) x y numbers others ends stops same = absurd (number_not_fork m x _ numbers same)
tree_once (Fork m l r) (Number n) x y numbers others ends stops same = absurd (number_not_fork n y _ others (sym same))
tree_once (Fork m l r) (Fork n l' r') x y numbers others ends stops same =
    let behind = sym (fork_behind m l r x) ∙ (heads 40 40 _ _ same).1 ∙ fork_behind n l' r' y in
    let number = numbers_once m n _ _ numbers.0 others.0 comma_ends comma_ends behind in
    let left = tree_once l l' _ _ numbers.1 others.1 comma_ends comma_ends (heads 44 44 _ _ number.1).1 in
    let right = tree_once r r' _ _ numbers.2 others.2 end_ends end_ends (heads 44 44 _ _ left.1).1 in
    let whole : Fork m l r ≡ Fork n l' r' = cc (number.0, left.0, right.0) in
    (whole, (heads 41 41 x y right.1).1)

-- a bracket is no digit
pub bracket_ends : (48 ≤ 93) × (93 ≤ 57) → ⊥
bracket_ends digit = omega (arith, digit.1)

pub spells_once : (text : List ℕ) (id id' : Id) (tree tree' : Written) → SpellsStamp text id tree → SpellsStamp text id' tree' → (id ≡ id') × (tree ≡ tree')
spells_once text id id' tree tree' one other =
    let whole = heads 91 91 _ _ (sym one.whole ∙ other.whole) in
    let ids_same = id_once id id' _ _ whole.1 in
    let trees_same = tree_once tree tree' _ _ one.numbers other.numbers bracket_ends bracket_ends (heads 59 59 _ _ ids_same.1).1 in
    (ids_same.0, trees_same.0)
