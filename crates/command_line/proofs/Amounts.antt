-- The number that a word spells is the one that clap takes and reads.
use Rattle.std.proofs.Common.{◌≡◌, ◌∙◌, ℕ, ◌^◌, ◌<◌, ◌≤◌, true, ◌&&◌, ◌||◌, not, leb, List, [], ◌∷◌, length, get_or, Option, Some, None, Result, Ok, Err, refl, sym, ap, subst, arith}
use Rattle.std.specs.Prelude.{nat_lt, ◌==◌}
use Rattle.std.specs.List.{list_all}
use Rattle.std.specs.Char.{digit_value}
use Rattle.std.specs.Str.Parse.{AllDigits, IsNumeral, ParsesUnsigned, digits_value, without_leading_plus}
use Rattle.std.proofs.lemmas.Bool.{and_parts, and_from, leb-true, le-leb, lt-ltb, ltb-true, not_from_false, ne_eqb}
use Rattle.std.proofs.lemmas.Str.Parse.{IsDigitsTest, FoldsDigits, IsNumeralModel, numerals_by_fold, digits_value_short, without_leading_plus_none}
use Rattle.clap.specs.Words.{ReadsOne}
use Rattle.clap.specs.ValueTests.{is_unsigned_in}
use Rattle.trace_types.specs.text.Name.{Text, is_between}
use Rattle.trace_types.specs.text.Reading.{is_digit, number_onto, is_number, number_of}
use Rattle.command_line.specs.Demand.{is_plain}
use Rattle.command_line.specs.Reading.{amount_spelled}
use Rattle.command_line.proofs.Optional.{if_some}

between : (low high n : ℕ) → is_between low high n ≡ true → (low ≤ n) × (n ≤ high)
between low high n within = let parts = and_parts (leb low n) (leb n high) within in (leb-true low n parts.0, leb-true n high parts.1)

tells_digits : IsDigitsTest (λ text. list_all is_digit text ≡ true)
tells_digits = record {
  empty = refl;
  parts = λ byte text all. let parts = and_parts (is_digit byte) (list_all is_digit text) all in (between 48 57 byte parts.0, parts.1);
  more = λ byte text digit all. and_from (is_digit byte) (list_all is_digit text) (and_from (leb 48 byte) (leb byte 57) (le-leb 48 byte digit.0) (le-leb byte 57 digit.1)) all;
}

folds_digits : FoldsDigits number_onto
folds_digits = record { empty = λ n. refl; more = λ n byte text digit. ap (λ m. number_onto m text) (omega arith) }

numerals : IsNumeralModel (λ text. list_all is_digit text ≡ true) (number_onto 0)
numerals = numerals_by_fold (λ text. list_all is_digit text ≡ true) tells_digits number_onto folds_digits

-- what is known of a word that spells a number
pub record Spells (word : Text) (number : ℕ) : Type 0 where
  pub numeral : IsNumeral 10 word
  pub value : digits_value 10 word ≡ number
  pub no_plus : without_leading_plus word ≡ word
  pub small : number < 10 ^ 9
  pub plain : is_plain word ≡ true

first_digit : (word : Text) → 1 ≤ length word → list_all is_digit word ≡ true → (48 ≤ get_or word 0 0) × (is_plain word ≡ true)
first_digit [] some all = absurd (omega arith)
first_digit (byte ∷ bytes) some all =
    let digit = (tells_digits.parts byte bytes all).0 in
    (digit.0, not_from_false _ (ne_eqb byte 45 (λ e. omega arith)))

pub spells : (word : Text) (number : ℕ) → number_of word ≡ Some number → Spells word number
spells word number of = let is = if_some (is_number word) (number_onto 0 word) number of in known is.1 is.0
  where
    known : is_number word ≡ true → number_onto 0 word ≡ number → Spells word number
    known is value =
        let parts = and_parts (is_between 1 9 (length word) && list_all is_digit word) ((length word == 1) || not (get_or word 0 0 == 48)) is in
        let front = and_parts (is_between 1 9 (length word)) (list_all is_digit word) parts.0 in
        let within = between 1 9 (length word) front.0 in
        let first = first_digit word within.0 front.1 in
        let digits = numerals.to word front.1 in
        let short : number_onto 0 word < 10 ^ 9 = digits_value_short numerals word 9 front.1 within.1 in
        record {
          numeral = (within.0, digits);
          value = sym (numerals.same word digits) ∙ value;
          no_plus = without_leading_plus_none word (λ e. omega arith);
          small = subst (λ n. n < 10 ^ 9) value short;
          plain = first.1;
        }

all_digits : (word : Text) → AllDigits 10 word → list_all (λ digit. nat_lt (digit_value digit) 10) word ≡ true
all_digits [] digits = refl
all_digits (byte ∷ bytes) digits = and_from _ _ (lt-ltb (digit_value byte) 10 digits.0) (all_digits bytes digits.1)

-- clap takes such a word where its number is in the range
pub passes : (most : ℕ) (word : Text) (number : ℕ) → Spells word number → is_between 1 most number ≡ true → is_unsigned_in 1 most word ≡ true
passes most word number is within =
    let parts = and_parts (leb 1 number) (leb number most) within in
    let large : number < 2 ^ 64 = omega (arith, is.small) in
    rw (is.no_plus, is.value)
    (and_from _ _ (and_from _ _ (lt-ltb 0 (length word) is.numeral.0) (all_digits word is.numeral.1))
    (and_from _ _ (lt-ltb number (2 ^ 64) large) within))

-- an option's word that spells a number spells it in clap's way too
pub is_amount : (word : Text) (number : ℕ) → number_of word ≡ Some number → amount_spelled word ≡ Some number
is_amount word number of =
    let is = spells word number of in
    let small : number < 2 ^ 64 = omega (arith, is.small) in
    let most : number ≤ 18446744073709551615 = omega (arith, is.small) in
    let taken : is_unsigned_in 0 18446744073709551615 word ≡ true =
    rw (is.no_plus, is.value)
    (and_from _ _ (and_from _ _ (lt-ltb 0 (length word) is.numeral.0) (all_digits word is.numeral.1))
    (and_from _ _ (lt-ltb number (2 ^ 64) small) (and_from (leb 0 number) (leb number 18446744073709551615) (le-leb 0 number (omega arith)) (le-leb number 18446744073709551615 most)))) in
    rw taken (ap Some (ap (digits_value 10) is.no_plus ∙ is.value))

-- what is known of a word that spells a number in clap's way
record IsAmount (word : Text) (number : ℕ) : Type 0 where
  numeral : IsNumeral 10 (without_leading_plus word)
  value : digits_value 10 (without_leading_plus word) ≡ number
  small : number < 2 ^ 64

each_digit : (word : Text) → list_all (λ digit. nat_lt (digit_value digit) 10) word ≡ true → AllDigits 10 word
each_digit [] all = tt
each_digit (byte ∷ bytes) all =
    let parts = and_parts (nat_lt (digit_value byte) 10) (list_all (λ digit. nat_lt (digit_value digit) 10) bytes) all in
    (ltb-true (digit_value byte) 10 parts.0, each_digit bytes parts.1)

amount : (word : Text) (number : ℕ) → amount_spelled word ≡ Some number → IsAmount word number
amount word number of =
    let digits = without_leading_plus word in
    let n = digits_value 10 digits in
    let is = if_some (is_unsigned_in 0 18446744073709551615 word) n number of in
    let parts = and_parts (nat_lt 0 (length digits) && list_all (λ digit. nat_lt (digit_value digit) 10) digits) (nat_lt n (2 ^ 64) && (leb 0 n && leb n 18446744073709551615)) is.1 in
    let numeral = and_parts (nat_lt 0 (length digits)) (list_all (λ digit. nat_lt (digit_value digit) 10) digits) parts.0 in
    let range = and_parts (nat_lt n (2 ^ 64)) (leb 0 n && leb n 18446744073709551615) parts.1 in
    record {
      numeral = (ltb-true 0 (length digits) numeral.0, each_digit digits numeral.1);
      value = is.0;
      small = subst (λ m. m < 2 ^ 64) is.0 (ltb-true n (2 ^ 64) range.0);
    }

-- and its number is read
pub reads : (E : Type 0) (G : List ℕ → Result ℕ E → Type 0) (word : Text) (number : ℕ) (r : Option ℕ)
    → amount_spelled word ≡ Some number → ((t : List ℕ) (x : Result ℕ E) → G t x → ParsesUnsigned 64 10 t x) → ReadsOne G word r → r ≡ Some number
reads E G word number (Some n) of only read = ap Some ((only word (Ok n) read).1 ∙ (amount word number of).value)
reads E G word number None of only read =
    let is = amount word number of in
    absurd (only word (Err read.0) read.1 (is.numeral, subst (λ n. n < 2 ^ 64) (sym is.value) is.small))
