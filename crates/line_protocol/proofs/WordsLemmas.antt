-- Words and numbers, from the front.
use Rattle.std.proofs.Common.{◌≡◌, ℕ, suc, ◌+◌, ◌-◌, ◌*◌, ◌^◌, ◌≤◌, ◌<◌, Bool, true, false, cond, List, [], ◌∷◌, ◌++◌, ◌==◌, length, take, drop, get_or, Option, None, Some, refl, sym, ap, ◌∙◌, arith, add-one, subst, ◌&&◌, leb-true}
use Rattle.std.specs.Prelude.{nat_le}
use Rattle.std.specs.List.{position, position_from}
use Rattle.std.proofs.lemmas.Iterator.Adapters.{position_from-zero}
use Rattle.std.proofs.lemmas.Grind.{pow_more}
use Rattle.std.proofs.Math.Nat.{pow-le-pow_right}
use Rattle.std.proofs.Math.Seq.{take-suc}
use Rattle.trace_types.specs.text.Name.{Text}
use Rattle.trace_types.specs.text.Reading.{words, onto, is_digit, number_onto, only, only_two, with_nothing}
use Rattle.trace_types.specs.declared.request.Request.{Request}

-- what a cut at the blank that a search from place i on finds leaves of the words
abbrev Cuts : ℕ → Text → Option ℕ → Type 0
Cuts i bytes None = words bytes ≡ bytes ∷ []
Cuts i bytes (Some k) = (at : ℕ) × (k ≡ i + at) × (words bytes ≡ take at bytes ∷ words (drop (suc at) bytes))

cuts-step : (i byte : ℕ) (bytes : Text) (b : Bool) (r : Option ℕ) → (byte == 32) ≡ b → Cuts (i + 1) bytes r → Cuts i (byte ∷ bytes) (cond b (Some i) r)
cuts-step i byte bytes true r is later = (0, omega arith, rw is refl)
cuts-step i byte bytes false None is later = rw (is, later) refl
cuts-step i byte bytes false (Some k) is (at, place, cut) = (suc at, omega arith, rw (is, cut) refl)

cuts : (i : ℕ) (bytes : Text) → Cuts i bytes (position_from (λ byte. byte == 32) i bytes)
cuts i [] = refl
cuts i (byte ∷ bytes) = cuts-step i byte bytes (byte == 32) (position_from (λ byte. byte == 32) (i + 1) bytes) refl (cuts (i + 1) bytes)

cut_at : (bytes : Text) (at : ℕ) → Cuts 0 bytes (Some at) → words bytes ≡ take at bytes ∷ words (drop (at + 1) bytes)
cut_at bytes at (k, place, cut) = let same : at ≡ k = omega arith in rw (same, add-one) cut

found_cuts : (bytes : Text) (r : Option ℕ) → position (λ byte. byte == 32) bytes ≡ r → Cuts 0 bytes r
found_cuts bytes r is =
    let P : Option ℕ → Type 0 = λ found. Cuts 0 bytes found in
    subst P (sym (position_from-zero (λ byte. byte == 32) bytes) ∙ is) (cuts 0 bytes)

-- a cut at the first blank
pub words-cut : (bytes : Text) (at : ℕ) → Some at ≡ position (λ byte. byte == 32) bytes → words bytes ≡ take at bytes ∷ words (drop (at + 1) bytes)
words-cut bytes at is = cut_at bytes at (found_cuts bytes (Some at) (sym is))

-- no blank
pub words-whole : (bytes : Text) → None ≡ position (λ byte. byte == 32) bytes → words bytes ≡ bytes ∷ []
words-whole bytes is = found_cuts bytes None (sym is)

-- one digit more
pub number_onto-push : (n : ℕ) (digits : Text) (digit : ℕ) → number_onto n (digits ++ digit ∷ []) ≡ 10 * number_onto n digits + (digit - 48)
number_onto-push n [] digit = refl
number_onto-push n (first ∷ digits) digit = number_onto-push (10 * n + (first - 48)) digits digit

pub number_onto-take : (digits : Text) (i : ℕ) → i < length digits → number_onto 0 (take (i + 1) digits) ≡ 10 * number_onto 0 (take i digits) + (get_or digits i 0 - 48)
number_onto-take digits i within =
    ap (λ k. number_onto 0 (take k digits)) (add-one i) ∙ ap (number_onto 0) (take-suc digits i 0 within) ∙ number_onto-push 0 (take i digits) (get_or digits i 0)

pub both_true : (a b : Bool) → (a && b) ≡ true → (a ≡ true) × (b ≡ true)
both_true true true h = (refl, refl)
both_true true false h = (refl, h)
both_true false b h = (h, absurd (cc))

-- a digit lies between the first and the last
pub digit_bounds : (byte : ℕ) → is_digit byte ≡ true → (48 ≤ byte) × (byte ≤ 57)
digit_bounds byte is =
    let both = both_true (nat_le 48 byte) (nat_le byte 57) is in (leb-true 48 byte both.0, leb-true byte 57 both.1)

-- the number stays small
pub number_fits : (n digit i : ℕ) → n < 10 ^ i → digit ≤ 9 → i < 9 → (10 * n + digit < 10 ^ (i + 1)) × (10 * n + digit < 2 ^ 64)
number_fits n digit i small low few =
    let more = pow_more 10 i in
    let most : 10 ^ (i + 1) ≤ 10 ^ 9 = pow-le-pow_right (omega arith) {j = 9} (omega arith) in
    (omega arith, omega arith)

-- there is always a word
onto_some : (byte : ℕ) (words : List Text) → (first : Text) × (rest : List Text) × (onto byte words ≡ first ∷ rest)
onto_some byte [] = (byte ∷ [], [], refl)
onto_some byte (word ∷ words) = (byte ∷ word, words, refl)

pub some_word : (bytes : Text) → (first : Text) × (rest : List Text) × (words bytes ≡ first ∷ rest)
some_word [] = ([], [], refl)
some_word (byte ∷ bytes) = by_blank (byte == 32) refl
  where
    by_blank : (b : Bool) → (byte == 32) ≡ b → (first : Text) × (rest : List Text) × (words (byte ∷ bytes) ≡ first ∷ rest)
    by_blank true is = ([], words bytes, rw is refl)
    by_blank false is = let some = onto_some byte (words bytes) in (some.0, some.1, rw is some.2)

-- too many arguments
pub only-more : {A : Type 0} (read : Text → Option A) (word rest : Text) (all : List Text) → all ≡ word ∷ words rest → None ≡ only read all
only-more read word rest all is = rw (is, (some_word rest).2) refl

pub only_two-more : {A : Type 0} (read : Text → Option A) (a b rest : Text) (all : List Text) → all ≡ a ∷ b ∷ words rest → None ≡ only_two read all
only_two-more read a b rest all is = rw (is, (some_word rest).2) refl

-- what has no argument is not read where there is one
pub no_argument-more : (is_keyword : Bool) (request : Request) (rest : Text) → None ≡ cond is_keyword (with_nothing request (words rest)) None
no_argument-more true request rest = rw ((some_word rest).2) refl
no_argument-more false request rest = refl
