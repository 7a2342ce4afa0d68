-- Which events reach the new one and which the others, and that reaching goes forward.
use Rattle.std.proofs.Common.{◌≡◌, ◌≢◌, ◌⊎◌, ℕ, suc, ◌<◌, ◌≤◌, true, [], ◌∷◌, length, sym, inl, inr, arith}
use Rattle.std.proofs.lemmas.Bool.Decides.{nat_tests}
use Rattle.std.proofs.lemmas.Bool.{eqb-true}
use Rattle.tenant_ledger.proofs.Words.{History, last_event, second_event, reaches, Row}
use Rattle.trace_types.proofs.Reachability.{last_event-le, second_event-le}

-- the event that a row adds
abbrev pub new_event : History → ℕ
new_event earlier = suc (length earlier)

-- the last event of the row's task
abbrev pub first_of : Row → History → ℕ
first_of row earlier = last_event earlier row.task

-- the event beside it that the row follows
abbrev pub second_of : Row → History → ℕ
second_of row earlier = second_event earlier row.kind row.name

-- the row follows the event, or there is none
abbrev pub Follows : Row → History → ℕ → Type 0
Follows row earlier event = (event ≡ first_of row earlier) ⊎ (event ≡ second_of row earlier)

pub followed-le : (row : Row) (earlier : History) (event : ℕ) → Follows row earlier event → event ≤ length earlier
followed-le row earlier event (inl first) = omega (arith, first, last_event-le earlier row.task)
followed-le row earlier event (inr second) = omega (arith, second, second_event-le earlier row.kind row.name)

-- the row follows an event that this one reaches
abbrev pub ReachesFollowed : Row → History → ℕ → Type 0
ReachesFollowed row earlier a = (event : ℕ) × Follows row earlier event × (reaches earlier a event ≡ true)

-- what reaches an event after one row more is that event, or reaches one that the row follows, or did so before
pub reached_from : (row : Row) (earlier : History) (a b : ℕ) → reaches (row ∷ earlier) a b ≡ true
    → (a ≡ b) ⊎ (((b ≡ new_event earlier) × ReachesFollowed row earlier a) ⊎ ((b ≢ new_event earlier) × (reaches earlier a b ≡ true)))
reached_from row earlier a b reached = grind (arith, nat_tests)

-- an event that reaches another one comes before it
pub reaches_forward : (history : History) (a b : ℕ) → reaches history a b ≡ true → (a ≡ b) ⊎ ((a < b) × (b ≤ length history))
reaches_forward [] a b reached = inl (sym (eqb-true b a reached))
reaches_forward (row ∷ earlier) a b reached = elim (reached_from row earlier a b reached) [
  | inl same ↦ inl same
  | inr before ↦ elim before [
    | inl (last, (event, follows, known)) ↦ grind (arith, followed-le row earlier event follows, reaches_forward earlier a event known)
    | inr (older, known) ↦ grind (arith, reaches_forward earlier a b known)
  ]
]

-- so the new event reaches none before it
pub reached_from_older : (earlier : History) (a b : ℕ) → b ≢ new_event earlier → reaches earlier a b ≡ true → a ≢ new_event earlier
reached_from_older earlier a b older reached is = grind (arith, reaches_forward earlier a b reached)

-- an event that reaches one that the row follows reaches the new one
pub reaches_from_followed : (row : Row) (earlier : History) (a : ℕ) → a ≢ 0 → ReachesFollowed row earlier a
    → reaches (row ∷ earlier) a (new_event earlier) ≡ true
reaches_from_followed row earlier a some (event, follows, reached) = grind (arith, nat_tests, reaches_forward earlier a event reached)
