-- Words with more bits.
use Rattle.std.proofs.Common.{◌≡◌, ◌≢◌, ◌↔◌, ◌⊎◌, ℕ, ◌+◌, ◌-◌, ◌*◌, ◌^◌, ◌/◌, ◌%◌, ◌<◌, ◌≤◌, List, length, slice_index_or, slice_set, bit_and, bit_or, sym, ap, subst, inl, inr, ◌∙◌, arith, w64}
use Rattle.std.specs.Int.{bit_at, bit_not, trailing_ones}
use Rattle.std.proofs.lemmas.Bool.{cases_eq, cases_lt}
use Rattle.std.proofs.lemmas.List.{get_or-set_same, get_or-set_other, get_or_past}
use Rattle.std.proofs.lemmas.Nat.{and_le_l, or_lt, shr-shr, shr_le, trailing_le}
use Rattle.std.proofs.lemmas.Nat.Bits.{bit_at-lt, bit_at-zero, bit_at_and, bit_at_not, bit_at_or, bit_at_above, bit_at_clear_other, bit_at_ones, bit_at-trailing_ones, bit_at_set_same, bit_at_set_other}
use Rattle.trace_export.specs.Bits.{HasBit}

-- the word in which the number's bit stands
word_of : List ℕ → ℕ → ℕ
word_of words n = slice_index_or words (n / 64) 0

-- that word once the bit is set
set_word : List ℕ → ℕ → ℕ
set_word words n = bit_or (slice_index_or words (n / 64) 0) (1 * 2 ^ (n % 64) % 18446744073709551616)

-- one bit is set
abbrev pub with_bit : List ℕ → ℕ → List ℕ
with_bit words n = slice_set words (n / 64) (bit_or (slice_index_or words (n / 64) 0) (1 * 2 ^ (n % 64) % 18446744073709551616))

has-with_bit : (words : List ℕ) (n : ℕ) → n < 64 * length words → HasBit (with_bit words n) n
unfolding set_word
has-with_bit words n fits =
    let within : n / 64 < length words = omega arith in
    let small : n % 64 < 64 = omega arith in
    rw (get_or-set_same words (n / 64) (set_word words n) 0 within) (bit_at_set_same w64 (slice_index_or words (n / 64) 0) (n % 64) small)

same-with_bit : (words : List ℕ) (n m : ℕ) → n < 64 * length words → m ≢ n → bit_at (slice_index_or (with_bit words n) (m / 64) 0) (m % 64) ≡ bit_at (slice_index_or words (m / 64) 0) (m % 64)
unfolding set_word
same-with_bit words n m fits other = elim (cases_eq (m / 64) (n / 64)) [
  | inl same ↦
      let within : n / 64 < length words = omega arith in
      let small : n % 64 < 64 = omega arith in
      let apart : m % 64 ≢ n % 64 = λ equal. other (omega (arith, same, equal)) in
      rw (same, get_or-set_same words (n / 64) (set_word words n) 0 within) (bit_at_set_other w64 (slice_index_or words (n / 64) 0) (n % 64) small (m % 64) apart)
  | inr differs ↦ ap (λ word. bit_at word (m % 64)) (get_or-set_other words (n / 64) (m / 64) (set_word words n) 0 differs)
]

pub with_bit-iff : (words : List ℕ) (n m : ℕ) → n < 64 * length words → HasBit (with_bit words n) m ↔ (HasBit words m ⊎ (m ≡ n))
with_bit-iff words n m fits = elim (cases_eq m n) [
  | inl same ↦ (λ has. inr same, λ either. subst (λ k. HasBit (with_bit words n) k) (sym same) (has-with_bit words n fits))
  | inr differs ↦
      let still = same-with_bit words n m fits differs in
      (λ has. inl (sym still ∙ has), λ either. elim either [ inl has ↦ still ∙ has | inr same ↦ absurd (differs same) ])
]

-- the bits of both words
pub or-iff : (a b i : ℕ) → (bit_at (bit_or a b) i ≡ 1) ↔ ((bit_at a i ≡ 1) ⊎ (bit_at b i ≡ 1))
or-iff a b i = rw (bit_at_or a b i) (
  λ is. elim (cases_eq (bit_at a i) 1) [ inl first ↦ inl first | inr not_first ↦ inr (omega (arith, is, not_first, bit_at-lt a i, bit_at-lt b i)) ],
  λ either. elim either [ inl first ↦ omega (arith, first, bit_at-lt b i) | inr second ↦ omega (arith, second, bit_at-lt a i) ],
)

-- a bit of a word that is not there
no_bit-past : (words : List ℕ) (n : ℕ) → length words ≤ n / 64 → ¬ HasBit words n
no_bit-past words n past has = omega (arith, bit_at-zero (n % 64), sym (ap (λ word. bit_at word (n % 64)) (get_or_past words (n / 64) 0 past)) ∙ has)

-- the bits of both sets
pub added-iff : (words words' others : List ℕ)
    → ((j : ℕ) → j < length others → slice_index_or words' j 0 ≡ bit_or (slice_index_or words j 0) (slice_index_or others j 0))
    → ((j : ℕ) → length others ≤ j → slice_index_or words' j 0 ≡ slice_index_or words j 0)
    → (m : ℕ) → HasBit words' m ↔ (HasBit words m ⊎ HasBit others m)
added-iff words words' others added same m = elim (cases_lt (m / 64) (length others)) [
  | inl within ↦ rw (added (m / 64) within) (or-iff (slice_index_or words (m / 64) 0) (slice_index_or others (m / 64) 0) (m % 64))
  | inr past ↦
      let still = ap (λ word. bit_at word (m % 64)) (same (m / 64) past) in
      (λ has. inl (sym still ∙ has), λ either. elim either [ inl has ↦ still ∙ has | inr has ↦ absurd (no_bit-past others m past has) ])
]

-- each of the ones at the low end of a word
low_ones : (word i : ℕ) → word < 2 ^ 64 → i < trailing_ones w64 word → bit_at word i ≡ 1
low_ones word i fits low = elim (cases_lt (word + 1) (2 ^ 64)) [
  | inl below ↦ (bit_at-trailing_ones w64 word below).2 i low
  | inr full ↦
      let ones : word ≡ 2 ^ 64 - 1 = omega (arith, fits, full) in
      rw ones (bit_at_ones 64 i (omega (arith, low, trailing_le 64 (2 ^ 64 - 1 - word))))
]

-- those of what is left of a word from a place on
shifted_ones : (a s i : ℕ) → a < 2 ^ 64 → i < trailing_ones w64 (a / 2 ^ s) → (s + i < 64) × (bit_at a (s + i) ≡ 1)
shifted_ones a s i fits low =
    let one : bit_at a (s + i) ≡ 1 = ap (λ n. n % 2) (sym (shr-shr a s i)) ∙ low_ones (a / 2 ^ s) i (omega (arith, fits, shr_le a s)) low in
    let within : s + i < 64 = elim (cases_lt (s + i) 64) [ inl within ↦ within | inr past ↦ absurd (omega (arith, one, bit_at_above a 64 (s + i) fits past)) ] in
    (within, one)

-- one bit is cleared
abbrev pub without_bit : List ℕ → ℕ → List ℕ
without_bit words n = slice_set words (n / 64) (bit_and (slice_index_or words (n / 64) 0) (bit_not w64 (1 * 2 ^ (n % 64) % 18446744073709551616)))

-- the other bits stay
pub without_bit-others : (words : List ℕ) (n m : ℕ) → n < 64 * length words → m ≢ n → HasBit words m → HasBit (without_bit words n) m
without_bit-others words n m fits other has = elim (cases_eq (m / 64) (n / 64)) [
  | inl same ↦
      let within : n / 64 < length words = omega (arith, fits) in
      let small : n % 64 < 64 = omega arith in
      let m_small : m % 64 < 64 = omega arith in
      let apart : m % 64 ≢ n % 64 = λ equal. other (omega (arith, same, equal)) in
      let word = slice_index_or words (n / 64) 0 in
      let is : bit_at word (m % 64) ≡ 1 = subst (λ k. bit_at (slice_index_or words k 0) (m % 64) ≡ 1) same has in
      subst (λ k. bit_at (slice_index_or (without_bit words n) k 0) (m % 64) ≡ 1) (sym same)
      (ap (λ found. bit_at found (m % 64)) (get_or-set_same words (n / 64) (bit_and word (bit_not w64 (1 * 2 ^ (n % 64) % 18446744073709551616))) 0 within)
      ∙ bit_at_clear_other w64 word (n % 64) small (m % 64) m_small apart ∙ is)
  | inr differs ↦ ap (λ word. bit_at word (m % 64)) (get_or-set_other words (n / 64) (m / 64) (bit_and (slice_index_or words (n / 64) 0) (bit_not w64 (1 * 2 ^ (n % 64) % 18446744073709551616))) 0 differs) ∙ has
]

-- what the bit of a word says that has those bits which one word has not or two others have
both_or_not : (a b c i : ℕ) → a < 2 ^ 64 → i < 64 → bit_at (bit_or (bit_not w64 a) (bit_and b c)) i ≡ 1 → (bit_at a i ≢ 1) ⊎ ((bit_at b i ≡ 1) × (bit_at c i ≡ 1))
both_or_not a b c i fits small is = elim ((or-iff (bit_not w64 a) (bit_and b c) i).0 is) [
  | inl not ↦ inl (λ has. omega (arith, has, bit_at_not w64 a i fits small, not))
  | inr both ↦ inr (omega (arith, both, bit_at_and b c i, bit_at-lt b i, bit_at-lt c i), omega (arith, both, bit_at_and b c i, bit_at-lt b i, bit_at-lt c i))
]

-- the numbers from one on that a set has not, or two others have
pub run_outside_is : (words ones others : List ℕ) (a b c from n : ℕ) → a ≡ slice_index_or words (from / 64) 0 → b ≡ slice_index_or ones (from / 64) 0 → c ≡ slice_index_or others (from / 64) 0
    → a < 2 ^ 64 → b < 2 ^ 64 → from ≤ n → n < from + trailing_ones w64 (bit_or (bit_not w64 a) (bit_and b c) / 2 ^ (from % 64))
    → (¬ HasBit words n) ⊎ (HasBit ones n × HasBit others n)
run_outside_is words ones others a b c from n a_is b_is c_is a_fits b_fits least low =
    let fits : bit_or (bit_not w64 a) (bit_and b c) < 2 ^ 64 = or_lt 64 (bit_not w64 a) (bit_and b c) (omega arith) (omega (arith, and_le_l b c, b_fits)) in
    let found = shifted_ones (bit_or (bit_not w64 a) (bit_and b c)) (from % 64) (n - from) fits (omega (arith, least, low)) in
    let word : n / 64 ≡ from / 64 = omega (arith, least, found.0) in
    let place : n % 64 ≡ from % 64 + (n - from) = omega (arith, least, found.0) in
    let same : (list : List ℕ) (w : ℕ) → w ≡ slice_index_or list (from / 64) 0 → bit_at w (from % 64 + (n - from)) ≡ bit_at (slice_index_or list (n / 64) 0) (n % 64) =
    λ list w is. ap (λ found. bit_at found (from % 64 + (n - from))) (is ∙ ap (λ k. slice_index_or list k 0) (sym word)) ∙ ap (bit_at (slice_index_or list (n / 64) 0)) (sym place) in
    elim (both_or_not a b c (from % 64 + (n - from)) a_fits found.0 found.1) [
      | inl not ↦ inl (λ has. not (same words a a_is ∙ has))
      | inr both ↦ inr (sym (same ones b b_is) ∙ both.0, sym (same others c c_is) ∙ both.1)
    ]
