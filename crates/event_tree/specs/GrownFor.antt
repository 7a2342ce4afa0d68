-- The grown tree at a price.
use Rattle.std.specs.Prelude.{Bool, false, ◌==◌, ◌&&◌, if◌then◌else◌, Option, Some, None}
use Rattle.trace_types.specs.clock.Id.{Id}
use Rattle.trace_types.specs.clock.Grow.{Cost}
use Rattle.trace_types.specs.clock.EventTree.{EventTree}
use Rattle.trace_types.specs.clock.Grow.{cost, grown}
use Rattle.trace_types.specs.clock.Event.{normalised}

-- it costs exactly the price
abbrev pub costs : Cost → Option Cost → Bool
costs price None = false
costs price (Some amount) = (price.expansions == amount.expansions) && (price.steps == amount.steps)

-- the grown tree in normal form, if it costs exactly the price
abbrev pub grown_for : Cost → Id → EventTree → Option EventTree
grown_for price id tree = if costs price (cost id tree) then Some (normalised (grown id tree)) else None
