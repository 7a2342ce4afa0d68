-- How large ids and event trees are: how many of their nodes are inner ones.
use Rattle.std.specs.Prelude.{ℕ, suc, ◌+◌}
use Rattle.trace_types.specs.clock.Id.{Id, Zero, One, Pair}
use Rattle.trace_types.specs.clock.EventTree.{EventTree, Leaf, Node}

-- the number of an id's inner nodes
abbrev pub inner_of_id : Id → ℕ
inner_of_id Zero = 0
inner_of_id One = 0
inner_of_id (Pair left right) = suc (inner_of_id left + inner_of_id right)

-- the number of an event tree's inner nodes
abbrev pub inner_of_tree : EventTree → ℕ
inner_of_tree (Leaf n) = 0
inner_of_tree (Node n left right) = suc (inner_of_tree left + inner_of_tree right)
