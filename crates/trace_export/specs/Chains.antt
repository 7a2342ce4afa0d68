-- Chains of events, and what is kept of them.
use Rattle.std.specs.Prelude.{◌≡◌, ◌≢◌, ℕ, zero, suc, ◌-◌, ◌<◌, ◌≤◌, ◌⊎◌, List, [], ◌∷◌, ◌++◌, length, Contains}
use Rattle.std.specs.List.{slice_index_or}
use Rattle.trace_export.specs.Bits.{HasBit}
use Rattle.trace_export.specs.Edges.{Placing, listed_preds}

-- the event before the event in its chain, or 0
abbrev pub before_of : List ℕ → ℕ → ℕ
before_of before zero = zero
before_of before (suc place) = slice_index_or before place 0

-- the event so many steps before it, or 0
abbrev pub back_by : List ℕ → ℕ → ℕ → ℕ
back_by before zero event = event
back_by before (suc steps) event = before_of before (back_by before steps event)

-- the event stands in the chain of the other one, and not behind it
abbrev pub IsOnChain : List ℕ → ℕ → ℕ → Type 0
IsOnChain before event later = (steps : ℕ) × (back_by before steps later ≡ event)

-- what is before an event is an earlier one
abbrev pub LeadBack : List ℕ → Type 0
LeadBack before = (event : ℕ) → 0 < event → event ≤ length before → before_of before event < event

-- there is no event, or the set has it
abbrev pub IsInside : List ℕ → ℕ → Type 0
IsInside set event = (event ≡ 0) ⊎ HasBit set (event - 1)

-- The next event has its place behind one of these that was the last of its chain, or begins a chain. It is the last of its
-- chain, and of the others only the one before it is none any more.
pub record IsPutBehind (preds before tails before' tails' : List ℕ) : Type 0 where
  pub last : ℕ
  pub follows : (last ≡ 0) ⊎ Contains preds last
  pub grown : before' ≡ before ++ last ∷ []
  pub end : HasBit tails' (length before)
  pub others : (place : ℕ) → HasBit tails place → suc place ≢ last → HasBit tails' place

-- Each event of the first ones stands behind one that it follows, or begins a chain. If it is not the last of its chain,
-- another one stands behind it.
pub record AreChains (placing : Placing) (before tails : List ℕ) : Type 0 where
  pub follows : (event : ℕ) → 0 < event → event ≤ length before → (before_of before event ≡ 0) ⊎ Contains (listed_preds placing event) (before_of before event)
  pub ends : (event : ℕ) → 0 < event → event ≤ length before → ¬ HasBit tails (event - 1)
      → (later : ℕ) × (0 < later) × (later ≤ length before) × (before_of before later ≡ event)
