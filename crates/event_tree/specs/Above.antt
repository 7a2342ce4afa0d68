-- Where a lifted tree is above another one.
use Rattle.std.specs.Prelude.{◌≡◌, ℕ, Bool, true, false, ◌+◌, ◌<◌, []}
use Rattle.trace_types.specs.clock.Points.{Point}
use Rattle.trace_types.specs.clock.EventTree.{EventTree, value}
use Rattle.event_tree.specs.Lifted.{IsLiftedBelow}

-- the first lifted tree is above the second at the point
abbrev pub IsLiftedAboveAt : ℕ → EventTree → ℕ → EventTree → Point → Type 0
IsLiftedAboveAt m e n f point = n + value f point < m + value e point

-- the first lifted tree is below the second, and there is no path; or it is above the second at the path
abbrev pub IsBelowOrPath : Bool → ℕ → EventTree → ℕ → EventTree → Point → Type 0
IsBelowOrPath true m e n f path = IsLiftedBelow m e n f × (path ≡ [])
IsBelowOrPath false m e n f path = IsLiftedAboveAt m e n f path
