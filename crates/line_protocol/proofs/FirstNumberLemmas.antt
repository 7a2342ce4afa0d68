-- The number that the first word spells.
use Rattle.std.proofs.Common.{◌≡◌, ℕ, ◌+◌, ◌≤◌, ◌<◌, Bool, true, false, List, [], ◌∷◌, ◌++◌, ◌==◌, length, take, drop, get_or, Option, None, Some, refl, sym, ap, ◌∙◌, arith, ◌&&◌, ◌||◌, subst, add-one}
use Rattle.std.specs.Prelude.{not, nat_le, slice_index}
use Rattle.std.specs.List.{list_all}
use Rattle.std.proofs.Math.Seq.{drop-cons}
use Rattle.std.proofs.lemmas.Bool.{eqb-true, leb-true, leb-false, le-leb, lt-leb, ne_eqb}
use Rattle.std.proofs.lemmas.List.{append-nil, take-append-drop, take_all, length-append, length-drop, length-take-le, get_or-drop}
use Rattle.std.proofs.lemmas.List.Folds.{list_all-append}
use Rattle.trace_types.specs.text.Name.{Text, is_between}
use Rattle.trace_types.specs.text.Reading.{words, is_digit, is_number, number_of, number_onto, only, only_two}
use Rattle.line_protocol.specs.Words.{LeadingNumber, first_number, may_be_number}
use Rattle.line_protocol.proofs.WordsLemmas.{some_word, both_true, digit_bounds, only-more, only_two-more}

-- a byte that is no blank begins the word behind it
byte_first : (byte : ℕ) (bytes word : Text) (others : List Text) → (byte == 32) ≡ false → words bytes ≡ word ∷ others → words (byte ∷ bytes) ≡ (byte ∷ word) ∷ others
byte_first byte bytes word others is all = rw (is, all) refl

digit_no_blank : (byte : ℕ) (b : Bool) → is_digit byte ≡ true → (byte == 32) ≡ b → b ≡ false
digit_no_blank byte true is blank =
    let bounds = digit_bounds byte is in
    let same : byte ≡ 32 = eqb-true byte 32 blank in absurd (omega (arith, bounds.0, same))
digit_no_blank byte false is blank = refl

-- digits begin the word behind them
digits_first : (digits rest word : Text) (others : List Text) → list_all is_digit digits ≡ true → words rest ≡ word ∷ others → words (digits ++ rest) ≡ (digits ++ word) ∷ others
digits_first [] rest word others is all = all
digits_first (digit ∷ digits) rest word others is all =
    let both = both_true (is_digit digit) (list_all is_digit digits) is in
    byte_first digit (digits ++ rest) (digits ++ word) others (digit_no_blank digit (digit == 32) both.0 refl) (digits_first digits rest word others both.1 all)

-- tests that are joined
third : (a b c : Bool) → (a && c) ≡ true → b ≡ true → (a && b && c) ≡ true
third true true c both is = both
third true false c both is = is
third false b c both is = both

not_second : (a b c : Bool) → b ≡ false → (a && b && c) ≡ false
not_second true true c is = absurd (cc)
not_second true false c is = refl
not_second false b c is = refl

not_middle : (a b c : Bool) → b ≡ false → (a && (b && c)) ≡ false
not_middle true true c is = absurd (cc)
not_middle true false c is = refl
not_middle false b c is = refl

of_no_number : (text : Text) → is_number text ≡ false → number_of text ≡ None
of_no_number text is = rw is refl

first_of_words : (text word : Text) (others : List Text) → words text ≡ word ∷ others → number_of word ≡ None → None ≡ first_number (words text)
first_of_words text word others all none = rw (all, none) refl

-- digits that may be a number are one
of_digits : (digits : Text) → list_all is_digit digits ≡ true → may_be_number digits ≡ true → number_of digits ≡ Some (number_onto 0 digits)
of_digits digits is may =
    let number : is_number digits ≡ true = third (is_between 1 9 (length digits)) (list_all is_digit digits) ((length digits == 1) || not (slice_index digits 0 == 48)) may is in
    rw number refl

-- the digits are the first word
digits_alone : (text rest digits : Text) (others : List Text) → text ≡ digits ++ rest → words rest ≡ [] ∷ others → list_all is_digit digits ≡ true → may_be_number digits ≡ true → Some (number_onto 0 digits, others) ≡ first_number (words text)
digits_alone text rest digits others splits all is may =
    let first : words text ≡ (digits ++ []) ∷ others = ap words splits ∙ digits_first digits rest [] others is all in
    rw (first, append-nil digits, of_digits digits is may) refl

parts : (text : Text) (count : ℕ) → count < length text → text ≡ take count text ++ get_or text count 0 ∷ drop (count + 1) text
parts text count within = sym (take-append-drop count text) ∙ ap (λ rest. take count text ++ rest) (drop-cons text count 0 within ∙ ap (λ k. get_or text count 0 ∷ drop k text) (sym (add-one count)))

-- no more than the number
pub number-whole : (text : Text) (number count : ℕ) → LeadingNumber text number count → may_be_number (take count text) ≡ true → length text ≤ count → Some (number, []) ≡ first_number (words text)
number-whole text number count leads may ends =
    let whole : text ≡ take count text = sym (take_all count text ends) in
    rw leads.value (digits_alone text [] (take count text) [] (whole ∙ sym (append-nil (take count text))) refl leads.digits may)

-- a blank behind the number
pub number-blank : (text : Text) (number count : ℕ) → LeadingNumber text number count → may_be_number (take count text) ≡ true → count < length text → get_or text count 0 ≡ 32 → Some (number, words (drop (count + 1) text)) ≡ first_number (words text)
number-blank text number count leads may within blank =
    let rest = drop (count + 1) text in
    let splits : text ≡ take count text ++ 32 ∷ rest = parts text count within ∙ ap (λ byte. take count text ++ byte ∷ rest) blank in
    rw leads.value (digits_alone text (32 ∷ rest) (take count text) (words rest) splits refl leads.digits may)

-- a byte that is no digit, in a word
other_none : (digits word : Text) (byte : ℕ) → is_digit byte ≡ false → number_of (digits ++ byte ∷ word) ≡ None
other_none digits word byte is =
    let text = digits ++ byte ∷ word in
    let all : list_all is_digit text ≡ false = list_all-append is_digit digits (byte ∷ word) ∙ not_middle (list_all is_digit digits) (is_digit byte) (list_all is_digit word) is in
    of_no_number text (not_second (is_between 1 9 (length text)) (list_all is_digit text) ((length text == 1) || not (slice_index text 0 == 48)) all)

-- a word of more than nine bytes
long_none : (text : Text) → 9 < length text → number_of text ≡ None
long_none text long =
    let within : nat_le (length text) 9 ≡ false = lt-leb (length text) 9 long in
    of_no_number text (not_within (nat_le 1 (length text)) (nat_le (length text) 9) (list_all is_digit text) ((length text == 1) || not (slice_index text 0 == 48)) within)
  where
    not_within : (a b c d : Bool) → b ≡ false → (((a && b) && c) && d) ≡ false
    not_within true true c d is = absurd (cc)
    not_within true false c d is = refl
    not_within false b c d is = refl

-- what is behind the digits in their word
longer_none : (digits word : Text) (byte : ℕ) (d : Bool) → is_digit byte ≡ d → (length digits < 9 → is_digit byte ≡ false) → length digits ≤ 9 → number_of (digits ++ byte ∷ word) ≡ None
longer_none digits word byte false is ends few = other_none digits word byte is
longer_none digits word byte true is ends few = long_none (digits ++ byte ∷ word) (by_length (nat_le 9 (length digits)) refl)
  where
    by_length : (b : Bool) → nat_le 9 (length digits) ≡ b → 9 < length (digits ++ byte ∷ word)
    by_length true all = rw (length-append digits (byte ∷ word)) (omega (arith, leb-true 9 (length digits) all))
    by_length false less = absurd (cc (ends (leb-false 9 (length digits) less), is))

-- more behind the digits in the first word
pub number-longer : (text : Text) (number count : ℕ) → LeadingNumber text number count → count < length text → (get_or text count 0 == 32) ≡ false → None ≡ first_number (words text)
number-longer text number count leads within other =
    let byte = get_or text count 0 in
    let rest = drop (count + 1) text in
    let some = some_word rest in
    let splits = parts text count within in
    let first : words text ≡ (take count text ++ byte ∷ some.0) ∷ some.1 =
    ap words splits ∙ digits_first (take count text) (byte ∷ rest) (byte ∷ some.0) some.1 leads.digits (byte_first byte rest some.0 some.1 other some.2) in
    let long : length (take count text) ≡ count = length-take-le count text leads.within in
    first_of_words text (take count text ++ byte ∷ some.0) some.1 first (longer_none (take count text) some.0 byte (is_digit byte) refl (λ less. leads.ends (omega arith) within) (omega arith))

-- what may be no number, with neither too many digits nor a lone one, has a zero in front
leads_zero : (a b c d : Bool) → a ≡ true → b ≡ true → ((a && b) && (c || d)) ≡ false → d ≡ false
leads_zero true true true d low high is = absurd (cc)
leads_zero true true false d low high is = is
leads_zero true false c d low high is = absurd (cc)
leads_zero false b c d low high is = absurd (cc)

not_led : (a b c : Bool) → b ≡ false → c ≡ false → (a && (b || c)) ≡ false
not_led true true c alone zero = absurd (cc)
not_led true false c alone zero = zero
not_led false b c alone zero = refl

zero_none : (first second : ℕ) (digits word : Text) → length (first ∷ second ∷ digits) ≤ 9 → may_be_number (first ∷ second ∷ digits) ≡ false → number_of (first ∷ second ∷ digits ++ word) ≡ None
zero_none first second digits word few bad =
    let front = first ∷ second ∷ digits in
    let text = first ∷ second ∷ digits ++ word in
    let low : nat_le 1 (length front) ≡ true = le-leb 1 (length front) (omega arith) in
    let high : nat_le (length front) 9 ≡ true = le-leb (length front) 9 few in
    let zero : not (first == 48) ≡ false = leads_zero (nat_le 1 (length front)) (nat_le (length front) 9) (length front == 1) (not (first == 48)) low high bad in
    let two : (length text == 1) ≡ false = ne_eqb (length text) 1 (λ one. omega arith) in
    of_no_number text (not_led (is_between 1 9 (length text) && list_all is_digit text) (length text == 1) (not (first == 48)) two zero)

none_by : (digits rest : Text) → list_all is_digit digits ≡ true → length digits ≤ 9 → (length digits ≡ 0 → 0 < length rest → is_digit (slice_index rest 0) ≡ false) → may_be_number digits ≡ false → None ≡ first_number (words (digits ++ rest))
none_by [] [] is few ends bad = refl
none_by [] (byte ∷ rest) is few ends bad = by_blank (byte == 32) refl
  where
    by_blank : (b : Bool) → (byte == 32) ≡ b → None ≡ first_number (words (byte ∷ rest))
    by_blank true blank = rw blank refl
    by_blank false other =
        let some = some_word rest in
        first_of_words (byte ∷ rest) (byte ∷ some.0) some.1 (byte_first byte rest some.0 some.1 other some.2) (other_none [] some.0 byte (ends refl (omega arith)))
none_by (digit ∷ []) rest is few ends bad = absurd (cc)
none_by (first ∷ second ∷ digits) rest is few ends bad =
    let some = some_word rest in
    let front = first ∷ second ∷ digits in
    first_of_words (front ++ rest) (front ++ some.0) some.1 (digits_first front rest some.0 some.1 is some.2) (zero_none first second digits some.0 few bad)

-- no digit in front, or a zero before others
pub number-none : (text : Text) (number count : ℕ) → LeadingNumber text number count → may_be_number (take count text) ≡ false → None ≡ first_number (words text)
number-none text number count leads bad =
    let long : length (take count text) ≡ count = length-take-le count text leads.within in
    let splits = take-append-drop count text in
    let same : count + 0 ≡ count = omega arith in
    let front : length (take count text) ≡ 0 → 0 < length (drop count text) → is_digit (slice_index (drop count text) 0) ≡ false =
    λ empty some. rw (get_or-drop count text 0 0, same) (leads.ends (omega arith) (omega (arith, some, length-drop count text))) in
    let P : Text → Type 0 = λ t. None ≡ first_number (words t) in
    subst P splits (none_by (take count text) (drop count text) leads.digits (omega (arith, leads.few)) front bad)

-- the word that a number is
first_of : (all : List Text) (number : ℕ) (others : List Text) → Some (number, others) ≡ first_number all → (word : Text) × (all ≡ word ∷ others) × (number_of word ≡ Some number)
first_of [] number others is = absurd (cc)
first_of (word ∷ tail) number others is = by_number (number_of word) refl
  where
    Reads : Option (ℕ × List Text) → Type 0
    Reads None = ⊥
    Reads (Some read) = (text : Text) × (word ∷ tail ≡ text ∷ read.1) × (number_of text ≡ Some read.0)

    by_number : (read : Option ℕ) → number_of word ≡ read → Reads (Some (number, others))
    by_number None none = subst Reads (sym (rw none at is)) (cc)
    by_number (Some value) some = subst Reads (sym (rw some at is)) (word, refl, some)

-- a word more than one number
pub only_number-more : (all : List Text) (number : ℕ) (rest : Text) → Some (number, words rest) ≡ first_number all → None ≡ only number_of all
only_number-more all number rest is = let first = first_of all number (words rest) is in only-more number_of first.0 rest all first.1

-- a word more than two numbers
pub two_numbers-more : (all : List Text) (number next : ℕ) (rest more : Text) → Some (number, words rest) ≡ first_number all → Some (next, words more) ≡ first_number (words rest) → None ≡ only_two number_of all
two_numbers-more all number next rest more is then =
    let first = first_of all number (words rest) is in
    let second = first_of (words rest) next (words more) then in
    only_two-more number_of first.0 second.0 more all (first.1 ∙ ap (λ others. first.0 ∷ others) second.1)
