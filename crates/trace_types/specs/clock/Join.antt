-- The join of two event trees, by the table of the interval tree clock.
use Rattle.std.specs.Prelude.{ℕ, ◌+◌, ◌-◌, min, max}
use Rattle.trace_types.specs.clock.EventTree.{EventTree, Leaf, Node}
use Rattle.trace_types.specs.clock.Norm.{norm}

-- the tree with its root number raised
abbrev pub lifted : ℕ → EventTree → EventTree
lifted m (Leaf n) = Leaf (n + m)
lifted m (Node n left right) = Node (n + m) left right

-- the join of the number m and of the tree lifted by b; beside a node m counts as a node over 0 and 0
abbrev pub joined_number : ℕ → ℕ → EventTree → EventTree
joined_number m b (Leaf n) = Leaf (max m (b + n))
joined_number m b (Node n left right) =
    let low = min m (b + n) in
    norm low (joined_number (m - low) ((b + n) - low) left) (joined_number (m - low) ((b + n) - low) right)

-- the join of the first tree lifted by a and of the second lifted by b; the lesser root number is drawn out
abbrev pub joined : ℕ → EventTree → ℕ → EventTree → EventTree
joined a (Leaf m) b f = joined_number (a + m) b f
joined a (Node m l r) b (Leaf n) = joined_number (b + n) a (Node m l r)
joined a (Node m l r) b (Node n l' r') =
    let low = min (a + m) (b + n) in
    norm low (joined ((a + m) - low) l ((b + n) - low) l') (joined ((a + m) - low) r ((b + n) - low) r')

-- the join of two trees
abbrev pub join : EventTree → EventTree → EventTree
join e f = joined 0 e 0 f
