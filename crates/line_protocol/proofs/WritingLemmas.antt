-- Texts that are written piece by piece.
use Rattle.std.proofs.Common.{◌≡◌, ◌==◌, false, ℕ, zero, suc, ◌+◌, ◌-◌, ◌<◌, List, [], ◌∷◌, ◌++◌, length, take, drop, get_or, refl, sym, ap, ◌∙◌, append_assoc, add-one, drop-cons, decimal, codes, arith, length-append}
use Rattle.std.proofs.lemmas.List.{append-nil, take-append-drop, take_rest}
use Rattle.std.proofs.Math.Seq.{take-suc}
use Rattle.trace_types.specs.text.Text.{numbers_text}
use Rattle.line_protocol.specs.Writing.{WritesFront}

-- Of the text all but the rest was written.
pub record Wrote (old new text rest : List ℕ) : Type 0 where
  pub written : List ℕ
  pub grows : new ≡ old ++ written
  pub front : text ≡ written ++ rest

pub Wrote-start : (old text : List ℕ) → Wrote old old text text
Wrote-start old text = record { written = []; grows = sym (append-nil old); front = refl }

pub Wrote-more : {old new new' text rest : List ℕ} (n : ℕ) → Wrote old new text rest → new' ≡ new ++ take n rest → Wrote old new' text (drop n rest)
Wrote-more {old = old} {new' = new'} {text = text} {rest = rest} n wrote more = record {
  written = wrote.written ++ take n rest;
  grows = more ∙ ap (λ bytes. bytes ++ take n rest) wrote.grows ∙ append_assoc old wrote.written (take n rest);
  front =
      wrote.front ∙ ap (λ bytes. wrote.written ++ bytes) (sym (take-append-drop n rest)) ∙ sym (append_assoc wrote.written (take n rest) (drop n rest));
}

pub Wrote-front : {old new text rest : List ℕ} → Wrote old new text rest → 0 < length rest → WritesFront old new text
Wrote-front {rest = rest} wrote some_left = record { written = wrote.written; rest = rest; grows = wrote.grows; front = wrote.front; some_left = some_left }

pub Wrote-all : {old new text rest : List ℕ} → Wrote old new text rest → rest ≡ [] → new ≡ old ++ text
Wrote-all {old = old} wrote none =
    wrote.grows ∙ ap (λ bytes. old ++ bytes) (sym (wrote.front ∙ ap (λ bytes. wrote.written ++ bytes) none ∙ append-nil wrote.written))

-- what leaves nothing of some bytes took some
pub some_taken : (n : ℕ) (rest : List ℕ) → false ≡ (length rest == 0) → length (take (length rest - n) (drop n rest)) ≡ 0 → 0 < n
some_taken n [] some none = absurd (cc)
some_taken zero (x ∷ rest) some none = absurd (omega (arith, none, ap length (take_rest (x ∷ rest) 0)))
some_taken (suc n) (x ∷ rest) some none = omega arith

-- a front of the first text is a front of both
pub WritesFront-first : {old new first : List ℕ} (second : List ℕ) → WritesFront old new first → WritesFront old new (first ++ second)
WritesFront-first second front = record {
  written = front.written;
  rest = front.rest ++ second;
  grows = front.grows;
  front = ap (λ bytes. bytes ++ second) front.front ∙ append_assoc front.written front.rest second;
  some_left = omega (arith, front.some_left, length-append front.rest second);
}

-- behind a first text that was written, a front of the second is a front of both
pub WritesFront-later : {old middle new second : List ℕ} (first : List ℕ) → middle ≡ old ++ first → WritesFront middle new second → WritesFront old new (first ++ second)
WritesFront-later {old = old} first came front = record {
  written = first ++ front.written;
  rest = front.rest;
  grows = front.grows ∙ ap (λ bytes. bytes ++ front.written) came ∙ append_assoc old first front.written;
  front = ap (λ bytes. first ++ bytes) front.front ∙ sym (append_assoc first front.written front.rest);
  some_left = front.some_left;
}

-- the numbers of two lists
numbers_text-append : (xs ys : List ℕ) → numbers_text (xs ++ ys) ≡ numbers_text xs ++ numbers_text ys
numbers_text-append [] ys = refl
numbers_text-append (x ∷ xs) ys =
    ap (λ text. codes " " ++ decimal x ++ text) (numbers_text-append xs ys) ∙ sym (append_assoc (codes " " ++ decimal x) (numbers_text xs) (numbers_text ys))

-- one number more
pub numbers_text-take : (numbers : List ℕ) (i : ℕ) → i < length numbers
    → numbers_text (take (i + 1) numbers) ≡ numbers_text (take i numbers) ++ (codes " " ++ decimal (get_or numbers i 0))
numbers_text-take numbers i within =
    ap (λ k. numbers_text (take k numbers)) (add-one i)
    ∙ ap numbers_text (take-suc numbers i 0 within)
    ∙ numbers_text-append (take i numbers) (get_or numbers i 0 ∷ [])
    ∙ ap (λ text. numbers_text (take i numbers) ++ text) (append-nil (codes " " ++ decimal (get_or numbers i 0)))

-- of numbers that were written as far as one, with that one they are written one further
pub written-number : (old : List ℕ) {middle new : List ℕ} (numbers : List ℕ) (i : ℕ) → i < length numbers → middle ≡ old ++ numbers_text (take i numbers)
    → new ≡ middle ++ (codes " " ++ decimal (get_or numbers i 0)) → new ≡ old ++ numbers_text (take (i + 1) numbers)
written-number old numbers i within came more =
    let text = codes " " ++ decimal (get_or numbers i 0) in
    more
    ∙ ap (λ bytes. bytes ++ text) came
    ∙ append_assoc old (numbers_text (take i numbers)) text
    ∙ ap (λ bytes. old ++ bytes) (sym (numbers_text-take numbers i within))

-- the numbers before one, the number, and those after it
pub numbers_text-at : (numbers : List ℕ) (i : ℕ) → i < length numbers
    → numbers_text numbers ≡ numbers_text (take i numbers) ++ (codes " " ++ decimal (get_or numbers i 0) ++ numbers_text (drop (suc i) numbers))
numbers_text-at numbers i within =
    ap numbers_text (sym (take-append-drop i numbers))
    ∙ numbers_text-append (take i numbers) (drop i numbers)
    ∙ ap (λ rest. numbers_text (take i numbers) ++ numbers_text rest) (drop-cons numbers i 0 within)

-- of numbers that were written as far as one, a front of that one is a front of all
pub WritesFront-number : {old middle new : List ℕ} (numbers : List ℕ) (i : ℕ) → i < length numbers → middle ≡ old ++ numbers_text (take i numbers)
    → WritesFront middle new (codes " " ++ decimal (get_or numbers i 0)) → WritesFront old new (numbers_text numbers)
WritesFront-number numbers i within came front =
    rw (numbers_text-at numbers i within)
    (WritesFront-later (numbers_text (take i numbers)) came (WritesFront-first (numbers_text (drop (suc i) numbers)) front))
