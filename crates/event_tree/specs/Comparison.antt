-- How two event trees stand to each other, by their values at every point.
use Rattle.std.specs.Prelude.{◌≤◌}
use Rattle.trace_types.specs.clock.Points.{Point}
use Rattle.trace_types.specs.declared.order.Order.{Order}
use Rattle.trace_types.specs.declared.order.Order.TheVariants.{Same, Before, After, Concurrent}
use Rattle.trace_types.specs.clock.EventTree.{EventTree, value}

-- the value at every point is no greater
abbrev pub IsBelow : EventTree → EventTree → Type 0
IsBelow e f = (point : Point) → value e point ≤ value f point

-- the first tree stands so to the second
abbrev pub StandsAs : Order → EventTree → EventTree → Type 0
StandsAs Same e f = IsBelow e f × IsBelow f e
StandsAs Before e f = IsBelow e f × (¬ IsBelow f e)
StandsAs After e f = (¬ IsBelow e f) × IsBelow f e
StandsAs Concurrent e f = (¬ IsBelow e f) × (¬ IsBelow f e)
