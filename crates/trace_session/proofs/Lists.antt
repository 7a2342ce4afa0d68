-- Facts of each element of a list that is pushed to and popped from.
use Rattle.std.proofs.Common.{◌≡◌, ◌<◌, Bool, true, false, cond, List, [], ◌∷◌, ◌++◌, length, refl, subst, arith, Option, Some, None}
use Rattle.std.specs.Prelude.{All, IfNone, IfSome}
use Rattle.std.specs.Option.{option_to_list}
use Rattle.std.proofs.lemmas.List.{length-append}
use Rattle.std.proofs.lemmas.List.Elements.{All-push}
use Rattle.std.proofs.Math.ListN.{get_or-append}
use Rattle.std.proofs.Math.Seq.{get_or-append_seam}

-- what holds of each element of both lists holds of each of the first
pub All-front : {A : Type 0} (P : A → Type 0) (xs ys : List A) → All P (xs ++ ys) → All P xs
All-front P xs ys all = λ k d within. subst P (get_or-append xs ys d k within) (all k d (omega (arith, length-append xs ys)))

-- and of the one behind it
pub All-last : {A : Type 0} (P : A → Type 0) (xs : List A) (last : Option A) → All P (xs ++ option_to_list last) → IfSome last P
All-last P xs None all = tt
All-last P xs (Some x) all = subst P (get_or-append_seam xs x [] x) (all (length xs) x (omega (arith, length-append xs (x ∷ []))))

-- one element was pushed, or none
pub All-pushed : {A : Type 0} (P : A → Type 0) (xs ys : List A) (x : A) (pushed : Bool) → ys ≡ cond pushed (xs ++ x ∷ []) xs → All P xs → P x → All P ys
All-pushed P xs ys x true is all one = rw is (All-push P xs x all one)
All-pushed P xs ys x false is all one = rw is all

-- Nothing is in the list of a value that is not there.
pub none_listed : {A : Type 0} (one : Option A) → IfNone one (option_to_list one ≡ [])
none_listed None = refl
none_listed (Some x) = tt

-- The list of such a value has no element, so the value is not there.
pub none_there : {A : Type 0} (one : Option A) (x : A) → length (option_to_list one) < 1 → (option_to_list (Some x) ≡ option_to_list one ++ x ∷ []) × (one ≡ None)
none_there None x few = (refl, refl)
none_there (Some y) x few = absurd (omega (arith, few))
