-- What an event begins with: the filled tree where it is another, else what growth costs.
use Rattle.std.specs.Prelude.{◌≡◌, Bool, true, false, Option}
use Rattle.trace_types.specs.clock.EventTree.{EventTree}
use Rattle.trace_types.specs.clock.Grow.{Cost}
use Rattle.event_tree.specs.Raised.{RisesSomewhere}
use Rattle.event_tree.specs.declared.ev_tree.filling.Begun.{Begun}
use Rattle.event_tree.specs.declared.ev_tree.filling.Begun.TheVariants.{Unfilled, Filled}

-- the tree that is there after filling
abbrev pub filled_over : Begun → EventTree → EventTree
filled_over (Unfilled price) before = before
filled_over (Filled after) before = after

-- whether there is such a tree
abbrev pub is_filled : Begun → Bool
is_filled (Unfilled price) = false
is_filled (Filled after) = true

-- a filled tree rises somewhere above the one before
abbrev pub Rises : Begun → EventTree → Type 0
Rises (Unfilled price) before = Unit {0}
Rises (Filled after) before = RisesSomewhere before after

-- what is given makes the one tree the other, and is no tree where they are the same
pub record GivesFilled (given : Begun) (before after : EventTree) : Type 0 where
  pub exact : filled_over given before ≡ after
  pub rises : Rises given before

-- where it is no tree, it is this price
abbrev pub IsPriced : Begun → Option Cost → Type 0
IsPriced (Unfilled price) wanted = price ≡ wanted
IsPriced (Filled after) wanted = Unit {0}
