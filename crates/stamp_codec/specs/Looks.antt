-- What looking over a part of a text gives.
use Rattle.std.specs.Prelude.{◌≡◌, ℕ, ◌<◌, ◌≤◌, ◌⊎◌, List, [], ◌∷◌, ◌++◌, Option, Some, None, Result, Ok, Err}
use Rattle.trace_types.specs.clock.Id.{Id}
use Rattle.stamp_codec.specs.StampText.{Written, HasNumbers, written_text, written_tree, number_written}
use Rattle.stamp_codec.specs.Faults.{IsLeast, IsTooLargeAt, IsNotNormalAt}
use Rattle.stamp_codec.specs.Children.{IsChild}
use Rattle.stamp_codec.specs.declared.child.Child.{Child}

-- the text does not go on with a digit
abbrev pub EndsDigits : List ℕ → Type 0
EndsDigits [] = Unit {0}
EndsDigits (byte ∷ bytes) = (48 ≤ byte) × (byte ≤ 57) → ⊥

-- the text begins with this tree and this byte behind it
pub record BeginsTree (text : List ℕ) (tree : Written) (end : ℕ) (rest : List ℕ) : Type 0 where
  pub numbers : HasNumbers tree
  pub whole : text ≡ written_text tree ++ (end ∷ rest)

-- the number that the digits at this place say, behind which the rest was found, or the place if it is above the bound
abbrev pub ReadsNumber : Result ℕ ℕ → ℕ → List ℕ → ℕ → List ℕ → List ℕ → Type 0
ReadsNumber (Ok number) most digits start found rest = (number ≡ number_written digits) × (found ≡ rest)
ReadsNumber (Err place) most digits start found rest = (most < number_written digits) × (place ≡ start)

-- the first of these places, or that there is none
abbrev pub IsFirst : (ℕ → Type 0) → Option ℕ → Type 0
IsFirst IsAt None = (place : ℕ) → ¬ IsAt place
IsFirst IsAt (Some place) = IsLeast IsAt place

-- the first of a place that is known and of these
abbrev pub IsFirstWith : Option ℕ → (ℕ → Type 0) → Option ℕ → Type 0
IsFirstWith known IsAt first = IsFirst (λ place. (known ≡ Some place) ⊎ IsAt place) first

-- what looking over a part gives: no place is too large, the first node that is not normal is known with the one before,
-- and the rest is what stands behind; or the first place that is too large
abbrev pub Looks : {X : Type 0} → Result X ℕ → (X → Type 0) → (ℕ → Type 0) → (ℕ → Type 0) → Option ℕ → Option ℕ → List ℕ → List ℕ → Type 0
Looks (Ok seen) IsSeen IsLarge IsUneven known first found rest =
    (found ≡ rest) × ((place : ℕ) → ¬ IsLarge place) × IsFirstWith known IsUneven first × IsSeen seen
Looks (Err place) IsSeen IsLarge IsUneven known first found rest = IsLeast IsLarge place

-- what is known of an id, and of a tree
abbrev pub IsAny : Unit {0} → Type 0
IsAny seen = Unit {0}

abbrev pub IsTreeSeen : Written → Child → Type 0
IsTreeSeen tree child = IsChild child (written_tree tree)

-- what looking over a stamp's text gives
abbrev pub LooksOver : Result (Option ℕ) ℕ → Id → Written → Type 0
LooksOver (Ok first) id tree = ((place : ℕ) → ¬ IsTooLargeAt id tree place) × IsFirst (IsNotNormalAt id tree) first
LooksOver (Err place) id tree = IsLeast (IsTooLargeAt id tree) place
