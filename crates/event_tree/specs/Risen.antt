-- Where a lifted tree is above another one, and what an id owns of each half.
use Rattle.std.specs.Prelude.{◌≡◌, ℕ, ◌+◌, ◌^◌, ◌<◌, ◌≤◌, ◌⊎◌, true, false, max}
use Rattle.trace_types.specs.clock.Points.{Point}
use Rattle.trace_types.specs.clock.Id.{Id, Zero, One, Pair, owns}
use Rattle.trace_types.specs.clock.EventTree.{EventTree, value}
use Rattle.event_tree.specs.Height.{height}
use Rattle.event_tree.specs.Lifted.{IsLiftedBelow}
use Rattle.event_tree.specs.PointCode.{halves_of}

-- what the id owns of the left half, as an id of that half
abbrev pub left_id_of : Id → Id
left_id_of Zero = Zero
left_id_of One = One
left_id_of (Pair left right) = left

-- and of the right half
abbrev pub right_id_of : Id → Id
right_id_of Zero = Zero
right_id_of One = One
right_id_of (Pair left right) = right

-- a number whose bits are the halves of so many levels to a point where the second lifted tree is above the first
pub record IsRisenAt (levels : ℕ) (m : ℕ) (before : EventTree) (n : ℕ) (after : EventTree) (halves : ℕ) : Type 0 where
  pub small : halves < 2 ^ levels
  pub risen : m + value before (halves_of levels halves) < n + value after (halves_of levels halves)

-- outside the id the second lifted tree is nowhere above the first
abbrev pub RisesWithin : Id → ℕ → EventTree → ℕ → EventTree → Type 0
RisesWithin id m before n after = (point : Point) → owns id point ≡ false → n + value after point ≤ m + value before point

-- the second lifted tree is nowhere above the first, or one of them is higher than so many levels
abbrev pub NoneRisen : ℕ → ℕ → EventTree → ℕ → EventTree → Type 0
NoneRisen levels m before n after = IsLiftedBelow n after m before ⊎ (levels < max (height before) (height after))

-- the id owns the point, and the value there is raised
pub record IsRaisedAt (id : Id) (before after : EventTree) (point : Point) : Type 0 where
  pub owned : owns id point ≡ true
  pub raised : value before point < value after point
