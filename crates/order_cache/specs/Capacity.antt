-- How many comparisons a cache can be asked to remember.
use Rattle.std.specs.Prelude.{ℕ, ◌<◌, ◌≤◌}

abbrev pub IsCapacity : ℕ → Type 0
IsCapacity capacity = (0 < capacity) × (capacity ≤ 65536)
