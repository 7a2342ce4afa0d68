-- The normal form of a node, by the table of the interval tree clock.
use Rattle.std.specs.Prelude.{ℕ, ◌+◌, ◌-◌, min, ◌==◌, if◌then◌else◌}
use Rattle.trace_types.specs.clock.EventTree.{EventTree, Leaf, Node, minimum}

-- the tree with its root number lowered
abbrev pub lowered : ℕ → EventTree → EventTree
lowered m (Leaf n) = Leaf (n - m)
lowered m (Node n left right) = Node (n - m) left right

-- the node with what both children have in common drawn into its number
abbrev pub sunk : ℕ → EventTree → EventTree → EventTree
sunk n left right = let m = min (minimum left) (minimum right) in Node (n + m) (lowered m left) (lowered m right)

-- the normal form of a node over normal children
abbrev pub norm : ℕ → EventTree → EventTree → EventTree
norm n (Leaf l) (Leaf r) = if l == r then Leaf (n + l) else sunk n (Leaf l) (Leaf r)
norm n left right = sunk n left right
