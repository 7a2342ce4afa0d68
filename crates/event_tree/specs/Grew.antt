-- Where a tree grew, so many steps below its root.
use Rattle.std.specs.Prelude.{◌≡◌, ℕ, ◌+◌, ◌^◌, ◌<◌, ◌≤◌, max}
use Rattle.trace_types.specs.clock.EventTree.{EventTree, value, maximum}
use Rattle.event_tree.specs.Height.{height}
use Rattle.event_tree.specs.PointCode.{halves_of}
use Rattle.event_tree.specs.declared.ev_tree.growth.GrownPoint.{GrownPoint}

-- at each point that begins with these halves, the value was raised to the one that is told
pub record IsRaisedTo (steps : ℕ) (before after : EventTree) (there : GrownPoint) : Type 0 where
  pub small : there.halves < 2 ^ steps
  pub raised : (levels : ℕ) → steps ≤ levels → value before (halves_of levels there.halves) < there.value
  pub reached : (levels : ℕ) → steps ≤ levels → value after (halves_of levels there.halves) ≡ there.value

-- a tree that grew at the point, which tells of 128 levels at most
pub record GrewAt (steps : ℕ) (before after : EventTree) (there : GrownPoint) : Type 0 where
  pub high : steps ≤ max (height before) (height after)
  pub bounded : there.value ≤ maximum before + 1
  pub told : steps ≤ 128 → IsRaisedTo steps before after there
