-- Numbers that are read digit by digit, and stamps that are read at once.
use Rattle.std.proofs.Common.{◌≡◌, ℕ, ◌+◌, ◌-◌, ◌*◌, ◌/◌, ◌%◌, ◌^◌, ◌<◌, ◌≤◌, List, [], ◌∷◌, ◌++◌, ap, sym, ◌∙◌, append_assoc, refl, arith}
use Rattle.std.specs.Fmt.{decimal}
use Rattle.std.specs.Prelude.{Ok}
use Rattle.std.proofs.lemmas.Fmt.{decimal_step, decimal_digit}
use Rattle.trace_types.specs.clock.Id.{Id}
use Rattle.trace_types.specs.clock.EventTree.{Leaf, Node}
use Rattle.stamp_codec.specs.StampText.{Written, tree_text, stamp_as_text, written_tree}
use Rattle.stamp_codec.specs.Bounds.{IsBounded, as_written}
use Rattle.stamp_codec.specs.Reading.{ReadsStamp, SpellsNormal, GivesStamp}
use Rattle.stamp_codec.specs.declared.stamp.Stamp.{Stamp}
use Rattle.stamp_codec.proofs.RoundTrip.{spells_again, gives_again, text_is}
use Rattle.stamp_codec.proofs.Unique.{spells_once}

-- one digit is its number
pub one_digit : (digit : ℕ) → 48 ≤ digit → digit ≤ 57 → decimal (digit - 48) ≡ digit ∷ []
one_digit digit low high =
    let value : 48 + (digit - 48) ≡ digit = omega (arith, low) in
    decimal_digit (digit - 48) (omega (arith, high)) ∙ ap (λ d. d ∷ []) value

-- a number with one digit more
pub decimal_more : (number digit : ℕ) → 0 < number → 48 ≤ digit → digit ≤ 57 → number * 10 + (digit - 48) < 2 ^ 64 → decimal (number * 10 + (digit - 48)) ≡ decimal number ++ (digit ∷ [])
decimal_more number digit some low high small =
    let whole : ℕ = number * 10 + (digit - 48) in
    let front : whole / 10 ≡ number = omega (arith, low, high) in
    let last : 48 + whole % 10 ≡ digit = omega (arith, low, high) in
    decimal_step whole (omega (arith, some)) small ∙ ap (λ n. decimal n ++ ((48 + whole % 10) ∷ [])) front ∙ ap (λ d. decimal number ++ (d ∷ [])) last

-- the text goes on with one digit more of the number
pub more_behind : (text behind after : List ℕ) (number digit : ℕ) → text ≡ decimal number ++ behind → behind ≡ digit ∷ after → 0 < number → 48 ≤ digit → digit ≤ 57 → number * 10 + (digit - 48) < 2 ^ 64 →
    text ≡ decimal (number * 10 + (digit - 48)) ++ after
more_behind text behind after number digit text_is behind_is some low high small =
    text_is ∙ ap (λ t. decimal number ++ t) behind_is ∙ sym (append_assoc (decimal number) (digit ∷ []) after)
    ∙ ap (λ t. t ++ after) (sym (decimal_more number digit some low high small))

-- a node over two leaves is read from its three digits
pub twig_read : (text after : List ℕ) (number left right : ℕ) → text ≡ number ∷ (44 ∷ (left ∷ (44 ∷ (right ∷ (41 ∷ after))))) → (48 ≤ number) × (number ≤ 57) → (48 ≤ left) × (left ≤ 57) → (48 ≤ right) × (right ≤ 57) →
    40 ∷ text ≡ tree_text (Node (number - 48) (Leaf (left - 48)) (Leaf (right - 48))) ++ after
twig_read text after number left right text_is number_digit left_digit right_digit =
    ap (λ t. 40 ∷ t) text_is
    ∙ sym (rw (one_digit number number_digit.0 number_digit.1, one_digit left left_digit.0 left_digit.1, one_digit right right_digit.0 right_digit.1) refl)

-- what a stamp within the bounds says of each reading of its text
pub only_reading : (text : List ℕ) (stamp : Stamp) → IsBounded stamp → text ≡ stamp_as_text stamp → (id : Id) (tree : Written) → SpellsNormal text id tree → GivesStamp (Ok stamp) id (written_tree tree)
only_reading text stamp bounded whole id tree spells =
    let own = spells_again text stamp bounded whole in
    let once = spells_once text stamp.id id (as_written stamp.tree) tree own.within.spells spells.within.spells in
    (once.0, sym (text_is stamp bounded).1 ∙ ap (λ t. written_tree t) once.1)

-- and what it reads
pub reads_itself : (text : List ℕ) (stamp : Stamp) → IsBounded stamp → text ≡ stamp_as_text stamp → ReadsStamp text (Ok stamp)
reads_itself text stamp bounded whole = (as_written stamp.tree, spells_again text stamp bounded whole, sym (text_is stamp bounded).1)

-- the text is that of no other stamp
pub no_other : (text : List ℕ) (stamp other : Stamp) → IsBounded stamp → text ≡ stamp_as_text stamp → IsBounded other → text ≡ stamp_as_text other → GivesStamp (Ok stamp) other.id other.tree
no_other text stamp other bounded whole other_bounded other_whole =
    gives_again (Ok stamp) other other_bounded (only_reading text stamp bounded whole other.id (as_written other.tree) (spells_again text other other_bounded other_whole))
