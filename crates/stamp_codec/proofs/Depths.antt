-- How deep the parentheses of a text are nested.
use Rattle.std.proofs.Common.{◌≡◌, ℕ, ◌+◌, ◌-◌, ◌*◌, ◌≤◌, ◌<◌, inl, inr, max, ◌==◌, if◌then◌else◌, List, [], ◌∷◌, ◌++◌, length, length-append, refl, ap, ◌∙◌, arith}
use Rattle.std.proofs.lemmas.Bool.{ne_eqb, cases_eq}
use Rattle.trace_types.specs.clock.Id.{Id, Zero, One, Pair}
use Rattle.event_tree.specs.Height.{height}
use Rattle.stamp_codec.specs.StampText.{Written, Number, Fork, HasNumbers, IsWrittenNumber, AreDigits, SpellsStamp, id_text, written_text, written_tree, number_written}
use Rattle.stamp_codec.specs.Faults.{most_nested, tree_start, IsIdTooDeepAt, IsTreeTooLargeAt, IsTooLargeAt}
use Rattle.stamp_codec.specs.Bounds.{id_height, nesting_of}
use Rattle.stamp_codec.proofs.Parts.{pair_text-append, fork_behind, AreDigits-number, second_id, first_child, second_child}

-- the most parentheses that are inside one another: so many were before, and so many are open where the text begins
abbrev pub depth_from : ℕ → ℕ → List ℕ → ℕ
depth_from most nested [] = most
depth_from most nested (byte ∷ text) =
    if byte == 40 then depth_from (max most (nested + 1)) (nested + 1) text
    else if byte == 41 then depth_from most (nested - 1) text
    else depth_from most nested text

-- at the end it is the most so far
pub depth_end : (most nested : ℕ) (rest : List ℕ) → length rest < 1 → depth_from most nested rest ≡ most
depth_end most nested [] none = refl
depth_end most nested (byte ∷ rest) none = absurd (omega (arith, none))

-- a parenthesis is closed behind a whole node
closed : (most nested : ℕ) (rest : List ℕ) → depth_from most (nested + 1) (41 ∷ rest) ≡ depth_from most nested rest
closed most nested rest = ap (λ n. depth_from most n rest) (omega arith)

-- an id is as deep as it is high
depth_id : (most nested : ℕ) (id : Id) (rest : List ℕ) → nested ≤ most → depth_from most nested (id_text id ++ rest) ≡ depth_from (max most (nested + id_height id)) nested rest
depth_id most nested Zero rest low = ap (λ n. depth_from n nested rest) (omega (arith, low))
depth_id most nested One rest low = ap (λ n. depth_from n nested rest) (omega (arith, low))
depth_id most nested (Pair left right) rest low =
    let one : ℕ = max most (nested + 1) in
    let other : ℕ = max one (nested + 1 + id_height left) in
    ap (λ t. depth_from one (nested + 1) t) (pair_text-append (id_text left) (id_text right) rest)
    ∙ depth_id one (nested + 1) left (44 ∷ (id_text right ++ (41 ∷ rest))) (omega arith)
    ∙ depth_id other (nested + 1) right (41 ∷ rest) (omega arith)
    ∙ closed (max other (nested + 1 + id_height right)) nested rest
    ∙ ap (λ n. depth_from n nested rest) (omega arith)

-- digits open and close nothing
depth_digits : (most nested : ℕ) (digits rest : List ℕ) → AreDigits digits → depth_from most nested (digits ++ rest) ≡ depth_from most nested rest
depth_digits most nested [] rest are = refl
depth_digits most nested (digit ∷ digits) rest are =
    rw (ne_eqb digit 40 (λ is. omega (arith, is, are.0)), ne_eqb digit 41 (λ is. omega (arith, is, are.0))) (depth_digits most nested digits rest are.2)

-- so it is of a tree
depth_tree : (most nested : ℕ) (tree : Written) (rest : List ℕ) → HasNumbers tree → nested ≤ most → depth_from most nested (written_text tree ++ rest) ≡ depth_from (max most (nested + height (written_tree tree))) nested rest
depth_tree most nested (Number digits) rest numbers low =
    depth_digits most nested digits rest (AreDigits-number digits numbers) ∙ ap (λ n. depth_from n nested rest) (omega (arith, low))
depth_tree most nested (Fork digits left right) rest numbers low =
    let one : ℕ = max most (nested + 1) in
    let other : ℕ = max one (nested + 1 + height (written_tree left)) in
    let behind : List ℕ = 44 ∷ (written_text right ++ (41 ∷ rest)) in
    ap (λ t. depth_from one (nested + 1) t) (fork_behind digits left right rest)
    ∙ depth_digits one (nested + 1) digits (44 ∷ (written_text left ++ behind)) (AreDigits-number digits numbers.0)
    ∙ depth_tree one (nested + 1) left behind numbers.1 (omega arith)
    ∙ depth_tree other (nested + 1) right (41 ∷ rest) numbers.2 (omega arith)
    ∙ closed (max other (nested + 1 + height (written_tree right))) nested rest
    ∙ ap (λ n. depth_from n nested rest) (omega arith)

-- and of a stamp
pub depth_stamp : (text : List ℕ) (id : Id) (tree : Written) → SpellsStamp text id tree → depth_from 0 0 text ≡ nesting_of id tree
depth_stamp text id tree spells =
    ap (depth_from 0 0) spells.whole
    ∙ depth_id 0 0 id (59 ∷ (written_text tree ++ (93 ∷ []))) (omega arith)
    ∙ depth_tree (max 0 (0 + id_height id)) 0 tree (93 ∷ []) spells.numbers (omega arith)
    ∙ omega arith

-- what is nowhere too large is not nested too deep
low_id : (start nested : ℕ) (id : Id) → nested ≤ most_nested → ((place : ℕ) → ¬ IsIdTooDeepAt start nested id place) → nested + id_height id ≤ most_nested
low_id start nested Zero within none = omega (arith, within)
low_id start nested One within none = omega (arith, within)
low_id start nested (Pair left right) within none =
    let room : nested + 1 ≤ most_nested = elim (cases_eq nested most_nested) [ inl most ↦ absurd (none start (inl (most, refl))) | inr less ↦ omega (arith, within, less) ] in
    omega (
      arith,
      low_id (start + 1) (nested + 1) left room (λ place deep. none place (inr (inl deep))),
      low_id (second_id start left) (nested + 1) right room (λ place deep. none place (inr (inr deep))),
    )

low_tree : (start nested sum : ℕ) (tree : Written) → nested ≤ most_nested → ((place : ℕ) → ¬ IsTreeTooLargeAt start nested sum tree place) → nested + height (written_tree tree) ≤ most_nested
low_tree start nested sum (Number digits) within none = omega (arith, within)
low_tree start nested sum (Fork digits left right) within none =
    let room : nested + 1 ≤ most_nested = elim (cases_eq nested most_nested) [ inl most ↦ absurd (none start (inl (most, refl))) | inr less ↦ omega (arith, within, less) ] in
    omega (
      arith,
      low_tree (first_child start digits) (nested + 1) (sum + number_written digits) left room (λ place large. none place (inr (inr (inl large)))),
      low_tree (second_child start digits left) (nested + 1) (sum + number_written digits) right room (λ place large. none place (inr (inr (inr large)))),
    )

pub low_stamp : (id : Id) (tree : Written) → ((place : ℕ) → ¬ IsTooLargeAt id tree place) → nesting_of id tree ≤ most_nested
low_stamp id tree none =
    omega (
      arith,
      low_id 1 0 id (omega arith) (λ place deep. none place (inl deep)),
      low_tree (tree_start id) 0 0 tree (omega arith) (λ place large. none place (inr large)),
    )

-- each level takes four bytes at least
short_id : (id : Id) → 4 * id_height id < length (id_text id)
short_id Zero = omega arith
short_id One = omega arith
short_id (Pair left right) =
    omega (arith, short_id left, short_id right, length-append (id_text left) (44 ∷ (id_text right ++ (41 ∷ []))), length-append (id_text right) (41 ∷ []))

some_digit : (digits : List ℕ) → IsWrittenNumber digits → 0 < length digits
some_digit [] number = absurd number
some_digit (digit ∷ digits) number = omega arith

short_tree : (tree : Written) → HasNumbers tree → 4 * height (written_tree tree) < length (written_text tree)
short_tree (Number digits) numbers = some_digit digits numbers
short_tree (Fork digits left right) numbers =
    let behind : List ℕ = 44 ∷ (written_text right ++ (41 ∷ [])) in
    omega (
      arith,
      short_tree left numbers.1,
      short_tree right numbers.2,
      length-append digits (44 ∷ (written_text left ++ behind)),
      length-append (written_text left) behind,
      length-append (written_text right) (41 ∷ []),
    )

pub short_stamp : (text : List ℕ) (id : Id) (tree : Written) → SpellsStamp text id tree → 4 * nesting_of id tree < length text
short_stamp text id tree spells =
    omega (
      arith,
      short_id id,
      short_tree tree spells.numbers,
      ap (λ t. length t) spells.whole,
      length-append (id_text id) (59 ∷ (written_text tree ++ (93 ∷ []))),
      length-append (written_text tree) (93 ∷ []),
    )
