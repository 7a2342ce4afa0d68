-- What an operation on a tree may do at the points of an id.
use Rattle.std.specs.Prelude.{◌≡◌, false, ◌<◌}
use Rattle.trace_types.specs.clock.Points.{Point}
use Rattle.trace_types.specs.clock.Id.{Id, owns}
use Rattle.trace_types.specs.clock.EventTree.{EventTree, value}

-- at points that the id does not own the value stays
abbrev pub StaysOutside : Id → EventTree → EventTree → Type 0
StaysOutside id before after = (point : Point) → owns id point ≡ false → value after point ≡ value before point

-- the value at some point is greater
abbrev pub RisesSomewhere : EventTree → EventTree → Type 0
RisesSomewhere before after = (point : Point) × (value before point < value after point)
