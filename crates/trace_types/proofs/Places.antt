-- The places of names.
use Rattle.std.proofs.Common.{◌≡◌, ℕ, suc, ◌+◌, ◌<◌, true, false, List, [], ◌∷◌, length, get_or, Option, Some, None, refl, ap, arith}
use Rattle.std.specs.Prelude.{option_map, IfSome, if◌then◌else◌}
use Rattle.trace_types.specs.text.Name.{Text, is_same}
use Rattle.trace_types.specs.world.Replay.{place_of}
use Rattle.trace_types.proofs.Names.{is_same_iff}

-- a place where the name is
abbrev pub IsPlace : List Text → Text → ℕ → Type 0
IsPlace names name place = (place < length names) × ((d : Text) → get_or names place d ≡ name)

IsPlace-suc : (other : Text) (names : List Text) (name : Text) (found : Option ℕ) → IfSome found (IsPlace names name) → IfSome (option_map suc found) (IsPlace (other ∷ names) name)
IsPlace-suc other names name None h = h
IsPlace-suc other names name (Some place) h = (omega (arith, h.0), h.1)

-- a name is at its place
pub IsPlace-place_of : (names : List Text) (name : Text) → IfSome (place_of names name) (IsPlace names name)
IsPlace-place_of [] name = tt
IsPlace-place_of (other ∷ names) name =
    let at_front : is_same other name ≡ true → IfSome (Some 0) (IsPlace (other ∷ names) name) = λ same. (omega arith, λ d. (is_same_iff other name).0 same) in
    elim (is_same other name) as (λ b. (is_same other name ≡ b) → IfSome (if b then Some 0 else option_map suc (place_of names name)) (IsPlace (other ∷ names) name))
    [ true ↦ at_front | false ↦ λ differ. IsPlace-suc other names name (place_of names name) (IsPlace-place_of names name) ] refl

-- one place further
pub place_of-later : (i : ℕ) (other : Text) (names : List Text) (name : Text) → is_same other name ≡ false
    → option_map (λ place. i + place) (place_of (other ∷ names) name) ≡ option_map (λ place. (i + 1) + place) (place_of names name)
place_of-later i other names name differ = rw differ (shifted (place_of names name))
  where
    shifted : (found : Option ℕ) → option_map (λ place. i + place) (option_map suc found) ≡ option_map (λ place. (i + 1) + place) found
    shifted None = refl
    shifted (Some place) = ap Some (omega arith)

-- a place of a name is below the number of names
pub within_places : (names : List Text) (name : Text) → IfSome (place_of names name) (λ place. place < length names)
within_places names name = weaker (place_of names name) (IsPlace-place_of names name)
  where
    weaker : (found : Option ℕ) → IfSome found (IsPlace names name) → IfSome found (λ place. place < length names)
    weaker None h = h
    weaker (Some place) h = h.0
