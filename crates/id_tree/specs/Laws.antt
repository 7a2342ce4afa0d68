-- What the operations mean, point by point.
use Rattle.std.specs.Prelude.{◌≡◌, false, ◌||◌, ◌&&◌}
use Rattle.trace_types.specs.clock.Points.{Point}
use Rattle.trace_types.specs.clock.Id.{Id, owns}

-- exactly one of the two owns each point of the whole, and neither owns any other
abbrev pub SharesOut : Id → Id → Id → Type 0
SharesOut whole a b = (point : Point) → (owns a point || owns b point ≡ owns whole point) × (owns a point && owns b point ≡ false)

-- the two ids own the same points
abbrev pub OwnTheSame : Id → Id → Type 0
OwnTheSame a b = (point : Point) → owns a point ≡ owns b point
