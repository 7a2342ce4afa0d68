-- What is shown by the parts of a tree that are lent.
use Rattle.trace_types.specs.clock.EventTree.{EventTree}
use Rattle.trace_types.specs.clock.EventTree as plain
use Rattle.event_tree.specs.declared.ev_tree.Parts.{Parts}
use Rattle.event_tree.specs.declared.ev_tree.Parts.TheVariants.{Leaf, Node}

-- the tree whose parts they are
abbrev pub tree_of_parts : Parts → EventTree
tree_of_parts (Leaf n) = plain.Leaf n
tree_of_parts (Node n left right) = plain.Node n left.now right.now
