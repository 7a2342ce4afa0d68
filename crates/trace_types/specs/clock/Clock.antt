-- A clock whose ids split and are summed, and the interval tree clock (Almeida, Baquero and Fonte 2008) as one.
use Rattle.trace_types.specs.clock.Id.{Id, Zero, One}
use Rattle.trace_types.specs.clock.IdOperations.{split, sum}
use Rattle.trace_types.specs.clock.EventTree.{EventTree, Leaf}
use Rattle.trace_types.specs.clock.Join.{join}
use Rattle.trace_types.specs.clock.Event.{event}

-- what a clock does with its ids and with what its events know
pub record Clock (Id Tree : Type 0) : Type 0 where
  -- the id of a task that there is not, or that was joined
  pub nobody : Id
  -- the id with which a tenant starts
  pub whole : Id
  pub split : Id → Id × Id
  pub sum : Id → Id → Id
  -- what is known before any event
  pub start : Tree
  pub join : Tree → Tree → Tree
  pub event : Id → Tree → Tree

-- the interval tree clock
abbrev pub tree_clock : Clock Id EventTree
tree_clock = record { nobody = Zero; whole = One; split = split; sum = sum; start = Leaf 0; join = join; event = event }
