-- A number is read exactly from what it is written as.
use Rattle.std.proofs.Common.{◌≡◌, ◌≢◌, ◌↔◌, ◌⊎◌, ℕ, ◌^◌, ◌<◌, ◌≤◌, Bool, true, not, ◌&&◌, ◌||◌, eqb, leb, length, get_or, decimal, Some, None, refl, sym, ap, subst, ◌∙◌, inl, inr, arith}
use Rattle.std.specs.List.{list_all}
use Rattle.std.proofs.lemmas.Bool.{and_parts, and_from, or_cases, or_left, or_right, leb-true, le-leb, eqb-true, eq-eqb, eqb-false, ne_eqb, not-true, not_from_false, cond-true, cases_eq}
use Rattle.std.proofs.lemmas.Option.{cond_some}
use Rattle.std.proofs.lemmas.Str.Parse.{IsDigitsTest, FoldsDigits, IsNumeralModel, numerals_by_fold, digits_value_short}
use Rattle.std.proofs.lemmas.Fmt.{digits_decimal, digits_value-decimal, decimal-digits_value, length-decimal-le, decimal_nonempty, first_decimal, decimal_digit}
use Rattle.trace_types.specs.text.Name.{Text, is_between}
use Rattle.trace_types.specs.text.Reading.{is_digit, number_onto, is_number, number_of}

pub is_between_iff : (low high byte : ℕ) → (is_between low high byte ≡ true) ↔ ((low ≤ byte) × (byte ≤ high))
is_between_iff low high byte = (
  λ within. let parts = and_parts (leb low byte) (leb byte high) within in (leb-true low byte parts.0, leb-true byte high parts.1),
  λ within. and_from (leb low byte) (leb byte high) (le-leb low byte within.0) (le-leb byte high within.1),
)

tells_digits : IsDigitsTest (λ text. list_all is_digit text ≡ true)
tells_digits = record {
  empty = refl;
  parts = λ byte text all. let parts = and_parts (is_digit byte) (list_all is_digit text) all in ((is_between_iff 48 57 byte).0 parts.0, parts.1);
  more = λ byte text digit all. and_from (is_digit byte) (list_all is_digit text) ((is_between_iff 48 57 byte).1 digit) all;
}

folds_digits : FoldsDigits number_onto
folds_digits = record { empty = λ n. refl; more = λ n byte text digit. ap (λ m. number_onto m text) (omega arith) }

numerals : IsNumeralModel (λ text. list_all is_digit text ≡ true) (number_onto 0)
numerals = numerals_by_fold (λ text. list_all is_digit text ≡ true) tells_digits number_onto folds_digits

-- no zero stands in front of other digits
abbrev has_no_leading_zero : Text → Bool
has_no_leading_zero text = eqb (length text) 1 || not (eqb (get_or text 0 0) 48)

abbrev IsNumberText : Text → Type 0
IsNumberText text = (1 ≤ length text) × (length text ≤ 9) × (list_all is_digit text ≡ true) × (has_no_leading_zero text ≡ true)

is_number_iff : (text : Text) → (is_number text ≡ true) ↔ IsNumberText text
is_number_iff text = (
  λ number.
      let parts = and_parts (is_between 1 9 (length text) && list_all is_digit text) (has_no_leading_zero text) number in
      let front = and_parts (is_between 1 9 (length text)) (list_all is_digit text) parts.0 in
      let within = (is_between_iff 1 9 (length text)).0 front.0 in
      (within.0, within.1, front.1, parts.1),
  λ number.
      and_from (is_between 1 9 (length text) && list_all is_digit text) (has_no_leading_zero text)
      (and_from (is_between 1 9 (length text)) (list_all is_digit text) ((is_between_iff 1 9 (length text)).1 (number.0, number.1)) number.2)
      number.3,
)

decimal-number_onto : (text : Text) → IsNumberText text → (number_onto 0 text < 10 ^ 9) × (decimal (number_onto 0 text) ≡ text)
decimal-number_onto text number =
    let small : number_onto 0 text < 10 ^ 9 = digits_value_short numerals text 9 number.2 number.1 in
    (small, decimal-digits_value numerals text number.2 number.0 one_zero (omega arith))
  where
    from_test : (length text ≡ 1) ⊎ (get_or text 0 0 ≢ 48) → get_or text 0 0 ≡ 48 → length text ≡ 1
    from_test (inl one) zero = one
    from_test (inr other) zero = absurd (other zero)

    either : (eqb (length text) 1 ≡ true) ⊎ (not (eqb (get_or text 0 0) 48) ≡ true) → (length text ≡ 1) ⊎ (get_or text 0 0 ≢ 48)
    either (inl one) = inl (eqb-true (length text) 1 one)
    either (inr other) = inr (eqb-false (get_or text 0 0) 48 (not-true (eqb (get_or text 0 0) 48) other))

    one_zero : get_or text 0 0 ≡ 48 → length text ≡ 1
    one_zero = from_test (either (or_cases (eqb (length text) 1) (not (eqb (get_or text 0 0) 48)) number.3))

IsNumberText-decimal : (n : ℕ) → n < 10 ^ 9 → IsNumberText (decimal n)
IsNumberText-decimal n small = (
  decimal_nonempty n (omega arith),
  length-decimal-le 9 n (omega arith) small (omega arith),
  digits_decimal numerals n (omega arith),
  no_leading_zero (cases_eq n 0),
)
  where
    no_leading_zero : (n ≡ 0) ⊎ (n ≢ 0) → has_no_leading_zero (decimal n) ≡ true
    no_leading_zero (inl zero) = or_left (eqb (length (decimal n)) 1) _ (eq-eqb (length (decimal n)) 1 (ap (λ m. length (decimal m)) zero ∙ ap length (decimal_digit 0 (omega arith))))
    no_leading_zero (inr positive) =
        let first : 48 < get_or (decimal n) 0 0 = first_decimal n (omega arith) (omega arith) in
        or_right (eqb (length (decimal n)) 1) (not (eqb (get_or (decimal n) 0 0) 48)) (not_from_false (eqb (get_or (decimal n) 0 0) 48) (ne_eqb (get_or (decimal n) 0 0) 48 (omega arith)))

pub list_all-decimal : (n : ℕ) → n < 10 ^ 9 → list_all is_digit (decimal n) ≡ true
list_all-decimal n small = (IsNumberText-decimal n small).2

pub number_of_iff : (text : Text) (n : ℕ) → (number_of text ≡ Some n) ↔ ((n < 10 ^ 9) × (text ≡ decimal n))
number_of_iff text n = (
  λ reads.
      let found = cond_some (is_number text) (number_onto 0 text) n reads in
      let known = decimal-number_onto text ((is_number_iff text).0 found.0) in
      (subst (λ m. m < 10 ^ 9) found.1 known.0, sym known.1 ∙ ap decimal found.1),
  λ spelled.
      let small : n < 2 ^ 64 = omega (arith, spelled.0) in
      ap number_of spelled.1
      ∙ cond-true (is_number (decimal n)) (Some (number_onto 0 (decimal n))) None ((is_number_iff (decimal n)).1 (IsNumberText-decimal n spelled.0))
      ∙ ap Some (digits_value-decimal numerals n small),
)
