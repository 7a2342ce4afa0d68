-- How sessions are served.
use Rattle.std.specs.Prelude.{◌≡◌, ℕ, ◌+◌, ◌^◌, ◌<◌, ◌≤◌, ◌⊎◌, ◌↔◌, Result, IfOk, IsErrOf}
use Rattle.trace_session.specs.declared.serving.ServeFault.{ServeFault}
use Rattle.trace_session.specs.declared.serving.ServeFault.TheVariants.{Workers, Door, Memory}

-- how many workers there may be
abbrev pub IsWorkers : ℕ → Type 0
IsWorkers workers = (1 ≤ workers) × (workers ≤ 32)

-- Connections were taken from a door until it closed, and their number is told; or a fault is. A door is seen by how many it
-- gave, how often it failed and how many it is to give. If memory was the fault, the door was not asked, or gave one.
pub record Accepts {D : Type 0} (given failures most : D → ℕ) (old new : D) (result : Result ℕ ServeFault) : Type 0 where
  pub counted : IfOk result (λ count. given new ≡ given old + count)
  pub same_most : most new ≡ most old
  pub closed : failures old ≡ 0 → IfOk result (λ count. (most old ≤ given new) ⊎ (count ≡ 2 ^ 32))
  pub door : IsErrOf result Door ↔ (failures old < failures new)
  pub memory : IsErrOf result Memory → (new ≡ old) ⊎ (given old < given new)
  pub workers : IsErrOf result Workers → ⊥
