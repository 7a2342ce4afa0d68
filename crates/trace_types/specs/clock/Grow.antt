-- Growing a tree below an id, by the table of the interval tree clock: the tree and its cost.
use Rattle.std.specs.Prelude.{ℕ, ◌+◌, Bool, true, false, nat_lt, ◌==◌, ◌&&◌, ◌||◌, if◌then◌else◌, Option, Some, None}
use Rattle.trace_types.specs.clock.Id.{Id, Zero, One, Pair}
use Rattle.trace_types.specs.clock.EventTree.{EventTree, Leaf, Node, maximum}

-- what growing costs: numbers made nodes, and steps down
pub record Cost : Type 0 where
  pub expansions : ℕ
  pub steps : ℕ

-- the number of the root_number
abbrev pub root_number : EventTree → ℕ
root_number (Leaf n) = n
root_number (Node n left right) = n

-- the left child; a leaf counts as a node over 0 and 0
abbrev pub left_of : EventTree → EventTree
left_of (Leaf n) = Leaf 0
left_of (Node n left right) = left

-- the right child; a leaf counts as a node over 0 and 0
abbrev pub right_of : EventTree → EventTree
right_of (Leaf n) = Leaf 0
right_of (Node n left right) = right

-- what it takes to make the root_number a node
abbrev pub expansion : EventTree → ℕ
expansion (Leaf n) = 1
expansion (Node n left right) = 0

-- fewer expansions, or as many and fewer steps
abbrev pub is_less : Cost → Cost → Bool
is_less a b = nat_lt a.expansions b.expansions || ((a.expansions == b.expansions) && nat_lt a.steps b.steps)

-- the first is strictly cheaper; what cannot be had is the dearest
abbrev pub is_cheaper : Option Cost → Option Cost → Bool
is_cheaper None b = false
is_cheaper (Some a) None = true
is_cheaper (Some a) (Some b) = is_less a b

-- the cheaper of the two, of equals the second
abbrev pub cheaper : Option Cost → Option Cost → Option Cost
cheaper a b = if is_cheaper a b then a else b

-- so many expansions and steps more
abbrev pub dearer : ℕ → ℕ → Option Cost → Option Cost
dearer expansions steps None = None
dearer expansions steps (Some cost) = Some (record { expansions = cost.expansions + expansions; steps = cost.steps + steps })

-- what growing the tree costs; an id that owns nothing cannot grow it
abbrev pub cost : Id → EventTree → Option Cost
cost Zero tree = None
cost One tree = Some (record { expansions = 0; steps = 0 })
cost (Pair il ir) tree = dearer (expansion tree) 1 (cheaper (cost il (left_of tree)) (cost ir (right_of tree)))

-- the tree grown on the cheaper side, of equals on the right; an id that owns all makes one leaf
abbrev pub grown : Id → EventTree → EventTree
grown Zero tree = tree
grown One tree = Leaf (maximum tree + 1)
grown (Pair il ir) tree =
    if is_cheaper (cost il (left_of tree)) (cost ir (right_of tree))
    then Node (root_number tree) (grown il (left_of tree)) (right_of tree)
    else Node (root_number tree) (left_of tree) (grown ir (right_of tree))
