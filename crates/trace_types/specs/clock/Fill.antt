-- Filling a tree below an id, by the table of the interval tree clock.
use Rattle.std.specs.Prelude.{ℕ, max}
use Rattle.trace_types.specs.clock.Id.{Id, Zero, One, Pair}
use Rattle.trace_types.specs.clock.EventTree.{EventTree, Leaf, Node, minimum, maximum}
use Rattle.trace_types.specs.clock.Norm.{norm}

-- the node with these filled children; a child that the id owns whole, over l or r, is raised to the other's least value
abbrev pub node_filled : ℕ → Id → Id → EventTree → EventTree → EventTree → EventTree → EventTree
node_filled n One ir l r l' r' = norm n (Leaf (max (maximum l) (minimum r'))) r'
node_filled n il One l r l' r' = norm n l' (Leaf (max (maximum r) (minimum l')))
node_filled n il ir l r l' r' = norm n l' r'

-- the tree raised where that makes it simpler, at points of the id
abbrev pub fill : Id → EventTree → EventTree
fill Zero tree = tree
fill One tree = Leaf (maximum tree)
fill (Pair il ir) (Leaf n) = Leaf n
fill (Pair il ir) (Node n l r) = node_filled n il ir l r (fill il l) (fill ir r)
