-- How two lifted event trees stand to each other.
use Rattle.std.specs.Prelude.{ℕ, ◌+◌, ◌≤◌}
use Rattle.trace_types.specs.clock.Points.{Point}
use Rattle.trace_types.specs.clock.EventTree.{EventTree, value}

-- the value at every point, lifted by the number beside its tree, is no greater
abbrev pub IsLiftedBelow : ℕ → EventTree → ℕ → EventTree → Type 0
IsLiftedBelow m e n f = (point : Point) → m + value e point ≤ n + value f point
