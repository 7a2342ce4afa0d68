-- What holds in the two cases of a result, and of a value that is there.
use Rattle.std.proofs.Common.{◌≡◌, subst}
use Rattle.std.specs.Prelude.{Option, Some, None, Result, Ok, Err, MatchResult, OnErr}

module _ {A B : Type 0} (Done : A → Type 0) (Failed : B → Type 0) where
  pub match_ok : (result : Result A B) (value : A) → result ≡ Ok value → MatchResult result Done Failed → Done value
  match_ok result value is holds = subst (λ r. MatchResult r Done Failed) is holds

  pub match_err : (result : Result A B) (error : B) → result ≡ Err error → MatchResult result Done Failed → Failed error
  match_err result error is holds = subst (λ r. MatchResult r Done Failed) is holds

-- what holds holds where a result is an error
pub on_err : {A B : Type 0} (result : Result A B) (P : Type 0) → P → OnErr result P
on_err (Ok value) P holds = tt
on_err (Err error) P holds = holds

-- it holds of the value, which is there
abbrev pub HoldsThere : {A : Type 0} → (A → Type 0) → Option A → Type 0
HoldsThere Holds None = ⊥
HoldsThere Holds (Some value) = Holds value

pub value_there : {A : Type 0} (option : Option A) (value : A) → option ≡ Some value → (Holds : A → Type 0) → HoldsThere Holds option → Holds value
value_there option value is Holds holds = subst (HoldsThere Holds) is holds

-- and so is what is seen of the value
abbrev pub shown_of : {A B : Type 0} → B → (A → B) → Option A → B
shown_of none shown None = none
shown_of none shown (Some value) = shown value

pub shown_there : {A B : Type 0} (option : Option A) (value : A) (none seen : B) (shown : A → B) → option ≡ Some value → shown_of none shown option ≡ seen → shown value ≡ seen
shown_there option value none seen shown is view = subst (λ o. shown_of none shown o ≡ seen) is view
