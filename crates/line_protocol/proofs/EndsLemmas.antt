-- Ends of line, and the lines that they make.
use Rattle.std.proofs.Common.{◌≡◌, ℕ, suc, ◌+◌, ◌-◌, ◌<◌, Bool, true, false, cond, List, [], ◌∷◌, ◌++◌, length, take, get_or, Option, None, Some, refl, ap, arith, ◌==◌, zero, eqb-true, ◌≢◌}
use Rattle.std.proofs.lemmas.Bool.Decides.{eqb_tells}
use Rattle.std.proofs.lemmas.List.{length-map}
use Rattle.std.proofs.lemmas.List.Sums.{sum_by-cons}
use Rattle.std.specs.Prelude.{if◌then◌else◌, not, is_some, IsTrue}
use Rattle.std.proofs.Common.{inl, inr}
use Rattle.std.proofs.lemmas.Iterator.Adapters.{position_from-zero}
use Rattle.std.specs.List.{position, position_from}
use Rattle.trace_types.specs.text.Lines.{Piece, pieces, onto_piece, line_of, lines, without_return}
use Rattle.line_protocol.specs.Ends.{HasNoEnd, end_count, EndsAt, IsEnd}

-- the piece up to an end of line
pub pieces-ended : (xs ys : List ℕ) → HasNoEnd xs → pieces (xs ++ 10 ∷ ys) ≡ record { bytes = xs; is_ended = true } ∷ pieces ys
pieces-ended [] ys h = refl
pieces-ended (x ∷ xs) ys h = rw (h.0, pieces-ended xs ys h.1) refl

-- the first of the lines, up to an end of line
pub lines-ended : (xs ys : List ℕ) → HasNoEnd xs → lines (xs ++ 10 ∷ ys) ≡ without_return xs ∷ lines ys
lines-ended xs ys h = rw (pieces-ended xs ys h) refl

-- the last line, with no end
pub pieces-last : (x : ℕ) (xs : List ℕ) → HasNoEnd (x ∷ xs) → pieces (x ∷ xs) ≡ record { bytes = x ∷ xs; is_ended = false } ∷ []
pieces-last x [] h = rw h.0 refl
pieces-last x (y ∷ ys) h = rw h.0 (ap (onto_piece x) (pieces-last y ys h.1))

pub lines-last : (x : ℕ) (xs : List ℕ) → HasNoEnd (x ∷ xs) → lines (x ∷ xs) ≡ (x ∷ xs) ∷ []
lines-last x xs h = rw (pieces-last x xs h) refl

-- a byte at the front of some pieces makes no piece
length-onto_piece : (x n : ℕ) (ps : List Piece) → length ps ≡ suc n → length (onto_piece x ps) ≡ suc n
length-onto_piece x n [] some = absurd (omega arith)
length-onto_piece x n (p ∷ ps) some = some

-- one byte more at the front
length-pieces-step : (x n : ℕ) (ps : List Piece) (b : Bool) → length ps ≡ suc n → length (if b then record { bytes = []; is_ended = true } ∷ ps else onto_piece x ps) ≡ suc (cond b 1 0 + n)
length-pieces-step x n ps true later = omega arith
length-pieces-step x n ps false later = omega (arith, length-onto_piece x n ps later)

length-pieces-ended : (xs : List ℕ) → length (pieces (xs ++ 10 ∷ [])) ≡ suc (end_count xs)
length-pieces-ended [] = refl
length-pieces-ended (x ∷ xs) =
    rw (sum_by-cons (λ byte. cond (byte == 10) 1 0) x xs) (length-pieces-step x (end_count xs) (pieces (xs ++ 10 ∷ [])) (x == 10) (length-pieces-ended xs))

-- With an end of line after them, bytes are one line more than they have ends.
pub length-lines-ended : (xs : List ℕ) → length (lines (xs ++ 10 ∷ [])) ≡ end_count xs + 1
length-lines-ended xs = omega (arith, length-map (pieces (xs ++ 10 ∷ [])) line_of, length-pieces-ended xs)

-- two stretches with no end
pub HasNoEnd-append : (xs ys : List ℕ) → HasNoEnd xs → HasNoEnd ys → HasNoEnd (xs ++ ys)
HasNoEnd-append [] ys h k = k
HasNoEnd-append (x ∷ xs) ys h k = (h.0, HasNoEnd-append xs ys h.1 k)

-- a carriage return at the end is dropped
pub without_return-last : (k : ℕ) (xs : List ℕ) → length xs ≡ suc k → get_or xs k 0 ≡ 13 → take k xs ≡ without_return xs
without_return-last k [] len last = absurd (omega arith)
without_return-last zero (x ∷ []) len last = let is : x ≡ 13 = last in rw is refl
without_return-last (suc k) (x ∷ []) len last = absurd (omega arith)
without_return-last zero (x ∷ y ∷ xs) len last = absurd (omega arith)
without_return-last (suc k) (x ∷ y ∷ xs) len last =
    let len' : suc (length xs) ≡ suc k = omega arith in ap (λ bytes. x ∷ bytes) (without_return-last k (y ∷ xs) len' last)

-- and nothing else
pub without_return-other : (k : ℕ) (xs : List ℕ) → length xs ≡ suc k → (get_or xs k 0 == 13) ≡ false → xs ≡ without_return xs
without_return-other k [] len last = absurd (omega arith)
without_return-other zero (x ∷ []) len last = let is : (x == 13) ≡ false = last in rw is refl
without_return-other (suc k) (x ∷ []) len last = absurd (omega arith)
without_return-other zero (x ∷ y ∷ xs) len last = absurd (omega arith)
without_return-other (suc k) (x ∷ y ∷ xs) len last =
    let len' : suc (length xs) ≡ suc k = omega arith in ap (λ bytes. x ∷ bytes) (without_return-other k (y ∷ xs) len' last)

neq-eqb : (a b : ℕ) → a ≢ b → (a == b) ≡ false
neq-eqb a b differ = elim (eqb_tells a b) [ inl same ↦ absurd (differ same.1) | inr other ↦ other.0 ]

-- a piece with no carriage return at its end
pub without_return-none : (xs : List ℕ) → (0 < length xs → get_or xs (length xs - 1) 0 ≢ 13) → xs ≡ without_return xs
without_return-none [] last = refl
without_return-none (x ∷ xs) last =
    let len : length (x ∷ xs) ≡ suc (length (x ∷ xs) - 1) = omega arith in
    without_return-other (length (x ∷ xs) - 1) (x ∷ xs) len (neq-eqb _ _ (last (omega arith)))

-- what a search from place i on finds
abbrev Found : ℕ → List ℕ → Option ℕ → Type 0
Found i xs None = HasNoEnd xs
Found i xs (Some k) = (at : ℕ) × (k ≡ i + at) × EndsAt xs at

found-step : (i x : ℕ) (xs : List ℕ) (b : Bool) (r : Option ℕ) → (x == 10) ≡ b → Found (i + 1) xs r → Found i (x ∷ xs) (cond b (Some i) r)
found-step i x xs true r is later =
    (0, omega arith, record { before = []; after = xs; splits = rw (eqb-true x 10 is) refl; no_end = tt; place = refl })
found-step i x xs false None is later = (is, later)
found-step i x xs false (Some k) is (at, place, ends) = (
  suc at,
  omega arith,
  record {
    before = x ∷ ends.before;
    after = ends.after;
    splits = ap (λ bytes. x ∷ bytes) ends.splits;
    no_end = (is, ends.no_end);
    place = ap suc ends.place;
  },
)

found : (i : ℕ) (xs : List ℕ) → Found i xs (position_from (λ byte. byte == 10) i xs)
found i [] = tt
found i (x ∷ xs) = found-step i x xs (x == 10) (position_from (λ byte. byte == 10) (i + 1) xs) refl (found (i + 1) xs)

is_end : (xs : List ℕ) (r : Option ℕ) → Found 0 xs r → IsEnd xs r
is_end xs None h = h
is_end xs (Some k) (at, place, ends) = let same : k ≡ at = omega arith in rw same ends

-- what a search for the first end finds
pub IsEnd-position : (xs : List ℕ) → IsEnd xs (position (λ byte. byte == 10) xs)
IsEnd-position xs = rw (position_from-zero (λ byte. byte == 10) xs) (is_end xs (position_from (λ byte. byte == 10) 0 xs) (found 0 xs))

-- an end of line is one
pub HasNoEnd-ended : (xs ys : List ℕ) → HasNoEnd (xs ++ 10 ∷ ys) → ⊥
HasNoEnd-ended [] ys none = let no = none.0 in cc
HasNoEnd-ended (x ∷ xs) ys none = HasNoEnd-ended xs ys none.1

-- where an end of line was found there is one
pub EndsAt-has_end : {bytes : List ℕ} {at : ℕ} → EndsAt bytes at → HasNoEnd bytes → ⊥
EndsAt-has_end ends none = HasNoEnd-ended ends.before ends.after (rw ends.splits at none)

-- the front of bytes that have no end
pub HasNoEnd-front : (xs ys : List ℕ) → HasNoEnd (xs ++ ys) → HasNoEnd xs
HasNoEnd-front [] ys none = tt
HasNoEnd-front (x ∷ xs) ys none = (none.0, HasNoEnd-front xs ys none.1)

-- whether a search found no end
pub IsEnd-none : (bytes : List ℕ) (found : Option ℕ) (none : Bool) → IsEnd bytes found → is_some found ≡ not none → (IsTrue none → HasNoEnd bytes) × (HasNoEnd bytes → IsTrue none)
IsEnd-none bytes None true is_end told = (λ _. is_end, λ _. refl)
IsEnd-none bytes None false is_end told = absurd (cc)
IsEnd-none bytes (Some at) true is_end told = absurd (cc)
IsEnd-none bytes (Some at) false is_end told = (λ no. absurd (cc), λ none. absurd (EndsAt-has_end is_end none))
