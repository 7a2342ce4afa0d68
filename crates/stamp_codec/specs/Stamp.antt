-- Stamps of the interval tree clock (Almeida, Baquero and Fonte 2008).
use Rattle.trace_types.specs.clock.Id.{Zero, One}
use Rattle.trace_types.specs.clock.IdOperations as ids
use Rattle.trace_types.specs.clock.EventTree.{Leaf}
use Rattle.trace_types.specs.clock.Event as trees
use Rattle.trace_types.specs.clock.Join as joins
use Rattle.stamp_codec.specs.declared.stamp.Stamp.{Stamp}

-- the first stamp: every point, and nothing has happened
abbrev pub seed : Stamp
seed = record { id = One; tree = Leaf 0 }

-- two stamps that share out the id, each with the tree
abbrev pub fork : Stamp → Stamp × Stamp
fork s = (record s { id = (ids.split s.id).0 }, record s { id = (ids.split s.id).1 })

-- the stamp after an event
abbrev pub stamp_event : Stamp → Stamp
stamp_event s = record s { tree = trees.event s.id s.tree }

-- the ids together, with what either tree says
abbrev pub stamp_join : Stamp → Stamp → Stamp
stamp_join s t = record { id = ids.sum s.id t.id; tree = joins.join s.tree t.tree }

-- the tree alone, with an id that owns no point
abbrev pub peek : Stamp → Stamp
peek s = record s { id = Zero }
