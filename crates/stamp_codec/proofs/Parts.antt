-- What stands at the front of a text, and where its parts stand.
use Rattle.std.proofs.Common.{◌≡◌, ◌≢◌, ℕ, ◌+◌, ◌≤◌, inl, inr, true, false, List, [], ◌∷◌, ◌++◌, length, drop, get_or, refl, ap, ◌∙◌, append_assoc, arith, length-append}
use Rattle.std.proofs.lemmas.Bool.{le-leb, lt-leb, cases_lt}
use Rattle.trace_types.specs.clock.Id.{Id, Zero, One, Pair}
use Rattle.stamp_codec.specs.StampText.{Written, Number, Fork, HasNumbers, IsWrittenNumber, AreDigits, id_text, written_text}
use Rattle.stamp_codec.specs.Scan.{is_digit_byte}
use Rattle.stamp_codec.specs.Looks.{BeginsTree}

-- equal lists have equal first elements, and equal rests
pub heads : (a b : ℕ) (x y : List ℕ) → a ∷ x ≡ b ∷ y → (a ≡ b) × (x ≡ y)
heads a b x y e = (cc, cc)

-- two nodes with what stands between and behind them
abbrev pub pair_text : List ℕ → List ℕ → List ℕ
pair_text left right = left ++ (44 ∷ (right ++ (41 ∷ [])))

pub pair_text-append : (left right after : List ℕ) → pair_text left right ++ after ≡ left ++ (44 ∷ (right ++ (41 ∷ after)))
pair_text-append left right after =
    append_assoc left (44 ∷ (right ++ (41 ∷ []))) after ∙ ap (λ t. left ++ (44 ∷ t)) (append_assoc right (41 ∷ []) after)

-- no number begins with a parenthesis
pub number_first : (first : ℕ) (others : List ℕ) → IsWrittenNumber (first ∷ others) → first ≢ 40
number_first first others (inl zero) is = omega (arith, zero.0)
number_first first others (inr more) is = omega (arith, more.0)

-- where the children of a node stand
abbrev pub second_id : ℕ → Id → ℕ
second_id start left = start + 1 + length (id_text left) + 1

abbrev pub first_child : ℕ → List ℕ → ℕ
first_child start digits = start + 1 + length digits + 1

abbrev pub second_child : ℕ → List ℕ → Written → ℕ
second_child start digits left = start + 1 + length digits + 1 + length (written_text left) + 1

-- no comma and no parenthesis is a digit
pub comma_ends : (48 ≤ 44) × (44 ≤ 57) → ⊥
comma_ends digit = omega (arith, digit.0)

pub end_ends : (48 ≤ 41) × (41 ≤ 57) → ⊥
end_ends digit = omega (arith, digit.0)

-- what is to be shown of each id at the front of a text, which begins with no 0 and no 1
abbrev pub ForId : List ℕ → (Id → List ℕ → Type 0) → Type 0
ForId text P = (id : Id) (rest : List ℕ) → text ≡ id_text id ++ rest → P id rest

pub for_pairs : (text : List ℕ) (P : Id → List ℕ → Type 0) → get_or text 0 0 ≢ 48 → get_or text 0 0 ≢ 49 →
    ((left right : Id) (rest : List ℕ) → text ≡ 40 ∷ (id_text left ++ (44 ∷ (id_text right ++ (41 ∷ rest)))) → P (Pair left right) rest) → ForId text P
for_pairs text P not_zero not_one pairs Zero rest whole = absurd (not_zero (ap (λ t. get_or t 0 0) whole))
for_pairs text P not_zero not_one pairs One rest whole = absurd (not_one (ap (λ t. get_or t 0 0) whole))
for_pairs text P not_zero not_one pairs (Pair left right) rest whole = pairs left right rest (whole ∙ ap (λ t. 40 ∷ t) (pair_text-append (id_text left) (id_text right) rest))

-- the same of each tree, in parentheses or without, with the byte behind it
abbrev pub ForTree : List ℕ → ℕ → (Written → List ℕ → Type 0) → Type 0
ForTree text end P = (tree : Written) (rest : List ℕ) → BeginsTree text tree end rest → P tree rest

pub fork_behind : (digits : List ℕ) (left right : Written) (rest : List ℕ) →
    (digits ++ (44 ∷ pair_text (written_text left) (written_text right))) ++ rest ≡ digits ++ (44 ∷ (written_text left ++ (44 ∷ (written_text right ++ (41 ∷ rest)))))
fork_behind digits left right rest =
    append_assoc digits (44 ∷ pair_text (written_text left) (written_text right)) rest ∙ ap (λ t. digits ++ (44 ∷ t)) (pair_text-append (written_text left) (written_text right) rest)

pub record IsFork (text digits : List ℕ) (left right : Written) (rest : List ℕ) : Type 0 where
  pub numbers : HasNumbers (Fork digits left right)
  pub whole : text ≡ 40 ∷ (digits ++ (44 ∷ (written_text left ++ (44 ∷ (written_text right ++ (41 ∷ rest))))))

pub for_forks : (text : List ℕ) (end : ℕ) (P : Written → List ℕ → Type 0) → get_or text 0 0 ≡ 40 →
    ((digits : List ℕ) (left right : Written) (rest : List ℕ) → IsFork text digits left right (end ∷ rest) → P (Fork digits left right) rest) → ForTree text end P
for_forks text end P opens forks (Number []) rest begins = absurd begins.numbers
for_forks text end P opens forks (Number (d ∷ digits)) rest begins = absurd (number_first d digits begins.numbers (rw begins.whole at opens))
for_forks text end P opens forks (Fork digits left right) rest begins =
    forks digits left right rest (record { numbers = begins.numbers; whole = begins.whole ∙ ap (λ t. 40 ∷ t) (fork_behind digits left right (end ∷ rest)) })

pub for_numbers : (text : List ℕ) (end : ℕ) (P : Written → List ℕ → Type 0) → get_or text 0 0 ≢ 40 → ((digits rest : List ℕ) → BeginsTree text (Number digits) end rest → P (Number digits) rest) → ForTree text end P
for_numbers text end P other numbers (Number digits) rest begins = numbers digits rest begins
for_numbers text end P other numbers (Fork digits left right) rest begins = absurd (other (ap (λ t. get_or t 0 0) begins.whole))

-- the second half stands behind the first one and a comma
pub at_second : (first found second one other rest : List ℕ) (start first_start second_start : ℕ) → first ≡ one ++ (44 ∷ (other ++ (41 ∷ rest))) → first_start ≡ start → found ≡ 44 ∷ (other ++ (41 ∷ rest)) →
    second ≡ drop 1 found → second_start + length second ≡ first_start + length first → (second ≡ other ++ (41 ∷ rest)) × (second_start ≡ start + length one + 1)
at_second first found second one other rest start first_start second_start first_is at found_is second_is end =
    let is : second ≡ other ++ (41 ∷ rest) = second_is ∙ ap (λ t. drop 1 t) found_is in
    (is, omega (arith, end, at, ap (λ t. length t) is, ap (λ t. length t) first_is, length-append one (44 ∷ (other ++ (41 ∷ rest)))))

-- the digits of a number are digits
pub AreDigits-number : (digits : List ℕ) → IsWrittenNumber digits → AreDigits digits
AreDigits-number [] number = absurd number
AreDigits-number (d ∷ digits) (inl zero) = (omega (arith, zero.0), omega (arith, zero.0), rw zero.1 tt)
AreDigits-number (d ∷ digits) (inr more) = (omega (arith, more.0), more.1, more.2)

-- the test for a digit, and what it says
pub digit_test : (byte : ℕ) → (48 ≤ byte) × (byte ≤ 57) → is_digit_byte byte ≡ true
digit_test byte digit = rw (le-leb 48 byte digit.0, le-leb byte 57 digit.1) refl

pub digit_true : (byte : ℕ) → is_digit_byte byte ≡ true → (48 ≤ byte) × (byte ≤ 57)
digit_true byte is =
    elim (cases_lt byte 48) [
      | inl low ↦ let clash : false ≡ true = rw (lt-leb 48 byte low) at is in cc
      | inr high ↦ elim (cases_lt 57 byte) [ inl above ↦ (let clash : false ≡ true = rw (le-leb 48 byte high, lt-leb byte 57 above) at is in cc) | inr below ↦ (high, below) ]
    ]
