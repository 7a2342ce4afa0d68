-- What an optional value tells of those that it was made of.
use Rattle.std.proofs.Common.{◌≡◌, ◌∙◌, Bool, true, false, Option, Some, None, option_map, option_and_then, refl, ap, subst, if◌then◌else◌}
use Rattle.std.specs.Prelude.{unwrap_or}

pub some_same : {X : Type 0} {a b : X} → Some a ≡ Some b → a ≡ b
some_same {X} {a} e = ap (λ o. unwrap_or o a) e

pub mapped : {A B : Type 0} (f : A → B) (o : Option A) (b : B) → option_map f o ≡ Some b → (a : A) × (o ≡ Some a) × (f a ≡ b)
mapped f None b e = cc
mapped f (Some a) b e = (a, refl, some_same e)

pub followed : {A B : Type 0} (f : A → Option B) (o : Option A) (b : B) → option_and_then f o ≡ Some b → (a : A) × (o ≡ Some a) × (f a ≡ Some b)
followed f None b e = cc
followed f (Some a) b e = (a, refl, e)

pub chosen : {A P : Type 0} (b : Bool) (x y : Option A) (a : A) → (if b then x else y) ≡ Some a → (b ≡ true → x ≡ Some a → P) → (y ≡ Some a → P) → P
chosen true x y a e one other = one refl e
chosen false x y a e one other = other e

pub if_some : {A : Type 0} (b : Bool) (x a : A) → (if b then Some x else None) ≡ Some a → (x ≡ a) × (b ≡ true)
if_some true x a e = (some_same e, refl)
if_some false x a e = cc

-- a value that passed a test
pub kept : {A : Type 0} (test : A → Bool) (o : Option A) (a : A) → option_and_then (λ x. if test x then Some x else None) o ≡ Some a
    → (o ≡ Some a) × (test a ≡ true)
kept test None a e = cc
kept test (Some x) a e = let is = if_some (test x) x a e in (ap Some is.0, subst (λ y. test y ≡ true) is.0 is.1)

pub stays : {A : Type 0} (test : A → Bool) (o : Option A) (a : A) → o ≡ Some a → test a ≡ true → option_and_then (λ x. if test x then Some x else None) o ≡ Some a
stays test o a e passes = ap (option_and_then (λ x. if test x then Some x else None)) e ∙ ap (λ b. if b then Some a else None) passes
