-- The first place of a byte, as a search for all its places tells it.
use Rattle.std.proofs.Common.{◌≡◌, ℕ, zero, suc, ◌+◌, ◌-◌, Bool, true, false, cond, List, [], ◌∷◌, length, drop, get_or, Option, None, Some, refl, sym, ap, ◌∙◌, arith}
use Rattle.std.specs.Iterator.{YieldsFirst}
use Rattle.std.specs.List.{position, position_from}
use Rattle.std.proofs.lemmas.Iterator.Adapters.{position_from-zero}
use Rattle.std.proofs.lemmas.List.{drop_more, drop_all}
use Rattle.memchr.specs.Find.{places, places_from}

-- the first of a list
abbrev first : List ℕ → Option ℕ
first [] = None
first (place ∷ places) = Some place

first-cond : (b : Bool) (place : ℕ) (places : List ℕ) (found : Option ℕ) → first places ≡ found → first (cond b (place ∷ places) places) ≡ cond b (Some place) found
first-cond true place places found is = refl
first-cond false place places found is = is

-- the first of the places from one on is where a search from there stops
first-places_from : (test : ℕ → Bool) (bytes : List ℕ) (i n : ℕ) → i + n ≡ length bytes → first (places_from test bytes i n) ≡ position_from test i (drop i bytes)
unfolding places_from
first-places_from test bytes i zero is = sym (ap (position_from test i) (drop_all i bytes (omega arith)))
first-places_from test bytes i (suc n) is =
    first-cond (test (get_or bytes i 0)) i (places_from test bytes (i + 1) n) _ (first-places_from test bytes (i + 1) n (omega arith))
    ∙ sym (ap (position_from test i) (drop_more bytes i 0 (omega arith)))

first-yielded : (places rest : List ℕ) (found : Option ℕ) → YieldsFirst (λ (places : List ℕ). places) places found rest → found ≡ first places
first-yielded places rest None (none, more) = sym (ap first none)
first-yielded places rest (Some place) is = sym (ap first is)

-- what an iterator over all places gives first is the first place
pub first_place : (test : ℕ → Bool) (bytes found_all rest : List ℕ) (found : Option ℕ) → found_all ≡ places test bytes
    → YieldsFirst (λ (places : List ℕ). places) found_all found rest → found ≡ position test bytes
first_place test bytes found_all rest found is yields =
    first-yielded found_all rest found yields ∙ ap first is ∙ first-places_from test bytes 0 (length bytes - 0) (omega arith) ∙ sym (position_from-zero test bytes)
