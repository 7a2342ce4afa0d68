-- Names as three words of eight bytes.
use Rattle.std.proofs.Common.{◌≡◌, ◌+◌, ◌<◌, ◌≤◌, ℕ, zero, suc, List, [], ◌∷◌, ◌++◌, length, take, drop, get_or, ap, sym, ◌∙◌, arith, rules, refl, length-drop, Bool, true, false, ◌&&◌, nat_eq}
use Rattle.std.specs.Int.{w64, to_le_bytes}
use Rattle.std.proofs.lemmas.Nat.{le_bytes_8}
use Rattle.std.proofs.lemmas.List.{take-append-drop, get_or-drop, length-take-le, drop-drop, take_all}
use Rattle.std.proofs.lemmas.Slice.Eq.{bytes_eq-Decides}
use Rattle.std.specs.Bool.{Decides}
use Rattle.std.specs.Cmp.{first_so, second_so}
use Rattle.std.proofs.lemmas.Bool.Decides.{Decides-eqb}
use Rattle.std.specs.Str.{bytes_eq}
use Rattle.trace_types.specs.text.NamePadding.{word_at, words_of}

-- all bytes of a name
pub record IsBytes (bytes : List ℕ) : Type 0 where
  pub long : length bytes ≡ 24
  pub small : (i : ℕ) → get_or bytes i 0 < 256

small-take : (n : ℕ) (xs : List ℕ) → ((i : ℕ) → get_or xs i 0 < 256) → (i : ℕ) → get_or (take n xs) i 0 < 256
small-take zero xs small i = omega arith
small-take (suc n) [] small i = small i
small-take (suc n) (x ∷ xs) small zero = small 0
small-take (suc n) (x ∷ xs) small (suc i) = small-take n xs (λ j. small (suc j)) i

eight-small : (start : ℕ) (bytes : List ℕ) → ((i : ℕ) → get_or bytes i 0 < 256) → (i : ℕ) → get_or (take 8 (drop start bytes)) i 0 < 256
eight-small start bytes small = small-take 8 (drop start bytes) (λ i. rw get_or-drop (small (start + i)))

eight-long : (start : ℕ) (bytes : List ℕ) → length bytes ≡ 24 → start ≤ 16 → length (take 8 (drop start bytes)) ≡ 8
eight-long start bytes long low = length-take-le 8 (drop start bytes) (simp length-drop (omega arith))

same_eight : (start : ℕ) (a b : List ℕ) → IsBytes a → IsBytes b → start ≤ 16 → word_at start a ≡ word_at start b → take 8 (drop start a) ≡ take 8 (drop start b)
unfolding word_at
same_eight start a b x y low same =
    sym (le_bytes_8 (take 8 (drop start a)) _ (eight-long start a x.long low) (eight-small start a x.small) refl)
    ∙ (ap (to_le_bytes w64) same ∙ le_bytes_8 (take 8 (drop start b)) _ (eight-long start b y.long low) (eight-small start b y.small) refl)

in_eights : (a : List ℕ) → length a ≡ 24 → a ≡ take 8 (drop 0 a) ++ (take 8 (drop 8 a) ++ take 8 (drop 16 a))
in_eights a long =
    let front = take-append-drop 8 a in
    let middle = take-append-drop 8 (drop 8 a) in
    let rest = drop-drop 8 8 a in
    let back : take 8 (drop 16 a) ≡ drop 16 a = take_all 8 (drop 16 a) (simp length-drop (omega arith)) in
    cc

pub same_words : (a b : List ℕ) → IsBytes a → IsBytes b
    → word_at 0 a ≡ word_at 0 b → word_at 8 a ≡ word_at 8 b → word_at 16 a ≡ word_at 16 b → a ≡ b
same_words a b x y first second third =
    let one = same_eight 0 a b x y (omega arith) first in
    let two = same_eight 8 a b x y (omega arith) second in
    let three = same_eight 16 a b x y (omega arith) third in
    let own = in_eights a x.long in
    let others = in_eights b y.long in
    cc

tested : (a b : List ℕ) (r : Bool) → Decides r (a ≡ b) → r ≡ bytes_eq a b
tested a b r h = search (rules, bytes_eq-Decides)

and-true : (a b : Bool) → a ≡ true → b ≡ true → (a && b) ≡ true
and-true true b x y = y
and-true false b x y = x

abbrev Words : Type 0
Words = ℕ × ℕ × ℕ

-- the test that compares three words
abbrev are_same : Words → Words → Bool
are_same p q = (nat_eq p.0 q.0 && nat_eq p.1 q.1) && nat_eq p.2 q.2

are_same-true : (p q : Words) → are_same p q ≡ true → p ≡ q
are_same-true p q h =
    let front = first_so (nat_eq p.0 q.0 && nat_eq p.1 q.1) (nat_eq p.2 q.2) h in
    let one : p.0 ≡ q.0 = (Decides-eqb p.0 q.0).0 (first_so (nat_eq p.0 q.0) (nat_eq p.1 q.1) front) in
    let two : p.1 ≡ q.1 = (Decides-eqb p.1 q.1).0 (second_so (nat_eq p.0 q.0) (nat_eq p.1 q.1) front) in
    let three : p.2 ≡ q.2 = (Decides-eqb p.2 q.2).0 (second_so (nat_eq p.0 q.0 && nat_eq p.1 q.1) (nat_eq p.2 q.2) h) in
    λ i. (one i, two i, three i)

true-are_same : (p q : Words) → p ≡ q → are_same p q ≡ true
true-are_same p q e =
    and-true (nat_eq p.0 q.0 && nat_eq p.1 q.1) (nat_eq p.2 q.2)
    (and-true (nat_eq p.0 q.0) (nat_eq p.1 q.1) ((Decides-eqb p.0 q.0).1 (ap (λ (w : Words). w.0) e)) ((Decides-eqb p.1 q.1).1 (ap (λ (w : Words). w.1) e)))
    ((Decides-eqb p.2 q.2).1 (ap (λ (w : Words). w.2) e))

-- so the bytes are compared as their words are
pub same_by_words : (a b : List ℕ) → IsBytes a → IsBytes b → (p q : Words) → p ≡ words_of a → q ≡ words_of b → (r : Bool) → r ≡ are_same p q → r ≡ bytes_eq a b
same_by_words a b x y p q p_is q_is r r_is =
    let words : r ≡ true → words_of a ≡ words_of b = λ is. sym p_is ∙ (are_same-true p q (sym r_is ∙ is) ∙ q_is) in
    let forth : r ≡ true → a ≡ b = λ is. same_words a b x y (ap (λ (w : Words). w.0) (words is)) (ap (λ (w : Words). w.1) (words is)) (ap (λ (w : Words). w.2) (words is)) in
    let back : a ≡ b → r ≡ true = λ e. r_is ∙ true-are_same p q (p_is ∙ (ap words_of e ∙ sym q_is)) in
    tested a b r (forth, back)
