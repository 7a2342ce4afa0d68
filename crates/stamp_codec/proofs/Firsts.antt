-- The first of several places.
use Rattle.std.proofs.Common.{◌≡◌, ◌⊎◌, inl, inr, ℕ, ◌≤◌, Option, Some, None, refl, arith}
use Rattle.stamp_codec.specs.Faults.{IsLeast}
use Rattle.stamp_codec.specs.Looks.{IsFirst, IsFirstWith}

-- places that are the same have the same first one
first_same : (P Q : ℕ → Type 0) (first : Option ℕ) → ((p : ℕ) → P p → Q p) → ((p : ℕ) → Q p → P p) → IsFirst P first → IsFirst Q first
first_same P Q None to from none = λ p q. none p (from p q)
first_same P Q (Some m) to from least = record { here = to m least.here; least = λ p q. least.least p (from p q) }

-- the places of one part and then those of another
first_both : (P Q : ℕ → Type 0) (a b c : Option ℕ) → IsFirstWith a P b → IsFirstWith b Q c → IsFirstWith a (λ p. P p ⊎ Q p) c
first_both P Q a None c none first =
    first_same (λ p. (None ≡ Some p) ⊎ Q p) (λ p. (a ≡ Some p) ⊎ (P p ⊎ Q p)) c
    (λ p is. elim is [ inl e ↦ cc | inr q ↦ inr (inr q) ])
    (λ p is. elim is [ inl e ↦ absurd (none p (inl e)) | inr (inl l) ↦ absurd (none p (inr l)) | inr (inr q) ↦ inr q ])
    first
first_both P Q a (Some m) None one none = absurd (none m (inl refl))
first_both P Q a (Some m) (Some n) one other = record {
  here = elim other.here [
    | inl e ↦ let same : m ≡ n = cc in rw (← same) (elim one.here [ inl known ↦ inl known | inr p ↦ inr (inl p) ])
    | inr q ↦ inr (inr q)
  ];
  least = λ p is. elim is [
    | inl known ↦ omega (arith, other.least m (inl refl), one.least p (inl known))
    | inr (inl l) ↦ omega (arith, other.least m (inl refl), one.least p (inr l))
    | inr (inr q) ↦ other.least p (inr q)
  ];
}

-- the same places, told in other words
pub first_told : (P Q : ℕ → Type 0) (a b : Option ℕ) → ((p : ℕ) → P p → Q p) → ((p : ℕ) → Q p → P p) → IsFirstWith a P b → IsFirstWith a Q b
first_told P Q a b to from first =
    first_same (λ p. (a ≡ Some p) ⊎ P p) (λ p. (a ≡ Some p) ⊎ Q p) b
    (λ p is. elim is [ inl known ↦ inl known | inr q ↦ inr (to p q) ])
    (λ p is. elim is [ inl known ↦ inl known | inr q ↦ inr (from p q) ])
    first

-- the places of both children and then that of the node
pub first_node : (O L R : ℕ → Type 0) (a b c d : Option ℕ) → IsFirstWith a L b → IsFirstWith b R c → IsFirstWith c O d → IsFirstWith a (λ p. O p ⊎ (L p ⊎ R p)) d
first_node O L R a b c d left right own =
    first_told (λ p. (L p ⊎ R p) ⊎ O p) (λ p. O p ⊎ (L p ⊎ R p)) a d
    (λ p is. elim is [ inl children ↦ inr children | inr o ↦ inl o ]) (λ p is. elim is [ inl o ↦ inr o | inr children ↦ inl children ])
    (first_both (λ p. L p ⊎ R p) O a c d (first_both L R a b c left right) own)

-- where there is no place, what is known is the first
pub first_none : (P : ℕ → Type 0) (a : Option ℕ) → ((p : ℕ) → ¬ P p) → IsFirstWith a P a
first_none P None none = λ p is. elim is [ inl e ↦ cc | inr q ↦ none p q ]
first_none P (Some m) none = record {
  here = inl refl;
  least = λ p is. elim is [ inl e ↦ let same : m ≡ p = cc in omega (arith, same) | inr q ↦ absurd (none p q) ];
}

-- of two parts with nothing known before
pub first_alone : (P Q : ℕ → Type 0) (b c : Option ℕ) → IsFirstWith None P b → IsFirstWith b Q c → IsFirst (λ p. P p ⊎ Q p) c
first_alone P Q b c one other =
    first_same (λ p. (None ≡ Some p) ⊎ (P p ⊎ Q p)) (λ p. P p ⊎ Q p) c
    (λ p is. elim is [ inl e ↦ cc | inr q ↦ q ]) (λ p q. inr q)
    (first_both P Q None b c one other)

-- the first place of two parts, of which the first one has it
pub least_early : (place : ℕ) (P Q : ℕ → Type 0) → ((p q : ℕ) → P p → Q q → p ≤ q) → IsLeast P place → IsLeast (λ p. P p ⊎ Q p) place
least_early place P Q before least = record { here = inl least.here; least = λ q is. elim is [ inl p ↦ least.least q p | inr later ↦ before place q least.here later ] }

-- or the second one, where the first one has none
pub least_late : (place : ℕ) (P Q : ℕ → Type 0) → ((p : ℕ) → ¬ P p) → IsLeast Q place → IsLeast (λ p. P p ⊎ Q p) place
least_late place P Q none least = record { here = inr least.here; least = λ q is. elim is [ inl p ↦ absurd (none q p) | inr later ↦ least.least q later ] }
