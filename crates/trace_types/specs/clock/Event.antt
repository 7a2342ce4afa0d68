-- The event of the interval tree clock: a tree raised at points of an id.
use Rattle.std.specs.Prelude.{Bool, false, ◌==◌, ◌&&◌, if◌then◌else◌}
use Rattle.trace_types.specs.clock.Id.{Id}
use Rattle.trace_types.specs.clock.EventTree.{EventTree, Leaf, Node}
use Rattle.trace_types.specs.clock.Fill.{fill}
use Rattle.trace_types.specs.clock.Grow.{grown}
use Rattle.trace_types.specs.clock.Norm.{norm}

-- whether the two are the same tree
abbrev pub is_same_tree : EventTree → EventTree → Bool
is_same_tree (Leaf m) (Leaf n) = m == n
is_same_tree (Leaf m) (Node n l r) = false
is_same_tree (Node m l r) (Leaf n) = false
is_same_tree (Node m l r) (Node n l' r') = (m == n) && (is_same_tree l l' && is_same_tree r r')

-- the tree with each node in normal form, from the leaves up
abbrev pub normalised : EventTree → EventTree
normalised (Leaf n) = Leaf n
normalised (Node n left right) = norm n (normalised left) (normalised right)

-- the filled tree, or where filling changes nothing the grown one
abbrev pub event : Id → EventTree → EventTree
event id tree = if is_same_tree (fill id tree) tree then normalised (grown id tree) else fill id tree
