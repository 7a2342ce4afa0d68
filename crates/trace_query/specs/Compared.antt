-- The comparison of two event trees, computed.
use Rattle.std.specs.Prelude.{ℕ, ◌+◌, Bool, true, false, ◌&&◌, nat_le}
use Rattle.trace_types.specs.declared.order.Order.{Order}
use Rattle.trace_types.specs.declared.order.Order.TheVariants.{Same, Before, After, Concurrent}
use Rattle.trace_types.specs.clock.EventTree.{EventTree, Leaf, Node, minimum, maximum}

-- whether no value of the first tree is above that of the second at the same point, each lifted by the number beside it
abbrev pub is_lifted_below : ℕ → EventTree → ℕ → EventTree → Bool
is_lifted_below m (Leaf a) n f = nat_le (m + a) (n + minimum f)
is_lifted_below m (Node a l r) n (Leaf b) = nat_le (m + maximum (Node a l r)) (n + b)
is_lifted_below m (Node a l r) n (Node b l' r') = is_lifted_below (m + a) l (n + b) l' && is_lifted_below (m + a) r (n + b) r'

-- whether no value of the first tree is above that of the second at the same point
abbrev pub is_below : EventTree → EventTree → Bool
is_below e f = is_lifted_below 0 e 0 f

-- the order, from whether the first is below the second and the second below the first
abbrev pub order_from : Bool → Bool → Order
order_from true true = Same
order_from true false = Before
order_from false true = After
order_from false false = Concurrent

-- how the first tree stands to the second
abbrev pub tree_order : EventTree → EventTree → Order
tree_order e f = order_from (is_below e f) (is_below f e)

-- whether it is this order
abbrev pub is_order : Order → Order → Bool
is_order Same Same = true
is_order Before Before = true
is_order After After = true
is_order Concurrent Concurrent = true
is_order wanted order = false
