-- Comparisons and lists, as the definitions compute them.
use Rattle.std.proofs.Common.{◌≡◌, ℕ, List, [], ◌∷◌, Ok, Err, refl}
use Rattle.trace_types.specs.declared.order.Order.TheVariants.{Before, Concurrent}
use Rattle.trace_types.specs.clock.EventTree.{EventTree, Leaf, Node}
use Rattle.trace_query.specs.Compared.{tree_order}
use Rattle.trace_query.specs.Queries.{StandInOrder, trees_before, concurrent_of, cut_by_trees, order_due, fault_due}
use Rattle.trace_query.specs.declared.queries.QueryFault.TheVariants.{Unknown, Memory}
use Rattle.trace_query.proofs.InOrder.{stand_in_order}

pub tree_order-210-202 : tree_order (Node 2 (Leaf 1) (Leaf 0)) (Node 2 (Leaf 0) (Leaf 2)) ≡ Concurrent
tree_order-210-202 = refl

pub tree_order-202-4 : tree_order (Node 2 (Leaf 0) (Leaf 2)) (Leaf 4) ≡ Before
tree_order-202-4 = refl

pub tree_order-4-203 : tree_order (Leaf 4) (Node 2 (Leaf 0) (Leaf 3)) ≡ Concurrent
tree_order-4-203 = refl

-- the trees of six events
abbrev pub run : List EventTree
run = Leaf 1 ∷ Leaf 2 ∷ Node 2 (Leaf 0) (Leaf 1) ∷ Node 2 (Leaf 1) (Leaf 0) ∷ Node 2 (Leaf 0) (Leaf 2) ∷ Leaf 4 ∷ []

pub run-in_order : StandInOrder run
run-in_order = stand_in_order run refl

pub past-4 : trees_before run 4 ≡ 1 ∷ 2 ∷ []
past-4 = refl

pub concurrent-4 : concurrent_of run 4 ≡ 3 ∷ 5 ∷ []
concurrent-4 = refl

pub past-6 : trees_before run 6 ≡ 1 ∷ 2 ∷ 3 ∷ 4 ∷ 5 ∷ []
past-6 = refl

pub concurrent-6 : concurrent_of run 6 ≡ []
concurrent-6 = refl

-- the tasks of the events: the first is the root, of number 0, and event 2 spawns the second
abbrev pub run_tasks : List ℕ
run_tasks = 0 ∷ 0 ∷ 2 ∷ 0 ∷ 2 ∷ 0 ∷ []

pub cut-1 : cut_by_trees run run_tasks 1 ≡ 1 ∷ []
cut-1 = refl

pub cut-5 : cut_by_trees run run_tasks 5 ≡ 2 ∷ 5 ∷ []
cut-5 = refl

pub cut-6 : cut_by_trees run run_tasks 6 ≡ 5 ∷ 6 ∷ []
cut-6 = refl

pub order-3-5 : order_due run 3 5 ≡ Ok Before
order-3-5 = refl

pub order-0-1 : order_due run 0 1 ≡ Err Unknown
order-0-1 = refl

pub list-7 : fault_due run 7 ≡ Unknown
list-7 = refl

pub list-6 : fault_due run 6 ≡ Memory
list-6 = refl
