-- Trees with one value everywhere, which take no memory.
use Rattle.trace_types.specs.clock.EventTree.{EventTree, Leaf, Node}

-- the tree is one number
abbrev pub IsLeafTree : EventTree → Type 0
IsLeafTree (Leaf n) = Unit {0}
IsLeafTree (Node n left right) = ⊥
