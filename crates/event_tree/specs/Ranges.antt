-- The range of a lifted tree, and what two ranges say of their trees.
use Rattle.std.specs.Prelude.{ℕ, ◌+◌, ◌≤◌}
use Rattle.trace_types.specs.clock.EventTree.{EventTree, minimum, maximum}
use Rattle.event_tree.specs.declared.ev_tree.comparison.Range.{Range}

-- from the least value of the lifted tree to the greatest
abbrev pub range_of : ℕ → EventTree → Range
range_of lift tree = record { low = lift + minimum tree; high = lift + maximum tree }

-- the whole of the first range is below the second
abbrev pub IsRangeBelow : Range → Range → Type 0
IsRangeBelow one other = one.high ≤ other.low

-- neither end of the first range is above that of the second
abbrev pub CanBeBelow : Range → Range → Type 0
CanBeBelow one other = (one.low ≤ other.low) × (one.high ≤ other.high)
