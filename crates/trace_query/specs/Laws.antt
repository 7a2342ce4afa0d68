-- What the definitions of comparison and of lists mean.
use Rattle.std.specs.Prelude.{◌≡◌, ◌≢◌, ℕ, ◌<◌, ◌↔◌, Bool, not, ◌&&◌, ◌==◌, nat_lt, IsTrue, List, Contains}
use Rattle.std.specs.List.{filter, list_any}
use Rattle.std.specs.List.Sorted.{IsStrictlyIncreasing}
use Rattle.trace_types.specs.clock.EventTree.{EventTree}
use Rattle.trace_types.specs.declared.order.Order.{Order}
use Rattle.event_tree.specs.Comparison.{IsBelow, StandsAs}
use Rattle.trace_query.specs.Compared.{tree_order, is_order}
use Rattle.trace_query.specs.Queries.{has_tree, events_of, tree_at, task_at, cut_by_trees, Lists}

-- the computed order is the one in which the trees stand
abbrev pub ComparesAsStands : Type 0
ComparesAsStands = (e f : EventTree) → StandsAs (tree_order e f) e f

-- the list has an event exactly where it is another one and stands so
abbrev pub HasExactly : Order → Lists → Type 0
HasExactly wanted list_of =
    (trees : List EventTree) (event other : ℕ) → Contains (list_of trees event) other
    ↔ (IsTrue (has_tree trees other) × (other ≢ event) × StandsAs wanted (tree_at trees other) (tree_at trees event))

-- the list is increasing
abbrev pub IsIncreasing : Lists → Type 0
IsIncreasing list_of = (trees : List EventTree) (event : ℕ) → IsStrictlyIncreasing (list_of trees event)

-- the tree of each event stands to that of the other as the events do
abbrev pub Tells : List EventTree → (ℕ → ℕ → Order) → Type 0
Tells trees order_of =
    (first second : ℕ) → IsTrue (has_tree trees first) → IsTrue (has_tree trees second)
    → StandsAs (order_of first second) (tree_at trees first) (tree_at trees second)

-- the list is that of the events which stand so by the order that the trees tell
abbrev pub IsToldByOrders : Order → Lists → Type 0
IsToldByOrders wanted list_of =
    (trees : List EventTree) (order_of : ℕ → ℕ → Order) → Tells trees order_of
    → (event : ℕ) → IsTrue (has_tree trees event)
    → list_of trees event ≡ filter (λ other. is_order wanted (order_of other event)) (events_of trees)

-- The tree of this event is below that of the event, and that of no later event of the same task is.
pub record IsLastBelow (trees : List EventTree) (tasks : List ℕ) (event other : ℕ) : Type 0 where
  pub there : IsTrue (has_tree trees other)
  pub below : IsBelow (tree_at trees other) (tree_at trees event)
  pub last : (later : ℕ) → other < later → IsTrue (has_tree trees later) → task_at tasks other ≡ task_at tasks later
      → IsBelow (tree_at trees later) (tree_at trees event) → ⊥

-- the cut has exactly the last event of each task that is below the event
abbrev pub HasLastOfTasks : Type 0
HasLastOfTasks =
    (trees : List EventTree) (tasks : List ℕ) (event other : ℕ) → Contains (cut_by_trees trees tasks event) other ↔ IsLastBelow trees tasks event other

-- the list of a cut is increasing
abbrev pub IsIncreasingCut : Type 0
IsIncreasingCut = (tasks : List ℕ) → IsIncreasing (λ trees event. cut_by_trees trees tasks event)

-- an event reaches another exactly where its tree is below that of the other
abbrev pub TellsReach : List EventTree → (ℕ → ℕ → Bool) → Type 0
TellsReach trees reach =
    (first second : ℕ) → IsTrue (has_tree trees first) → IsTrue (has_tree trees second)
    → IsTrue (reach first second) ↔ IsBelow (tree_at trees first) (tree_at trees second)

-- events are of the same task exactly where the numbers of their tasks are equal
abbrev pub TellsTasks : List EventTree → List ℕ → (ℕ → ℕ → Bool) → Type 0
TellsTasks trees tasks same =
    (first second : ℕ) → IsTrue (has_tree trees first) → IsTrue (has_tree trees second)
    → same first second ≡ (task_at tasks first == task_at tasks second)

-- those of the events that reach the event, such that no later event with the same task reaches it
abbrev pub cut_by : (ℕ → ℕ → Bool) → (ℕ → ℕ → Bool) → List ℕ → ℕ → List ℕ
cut_by reach same events event =
    filter (λ other. reach other event && not (list_any (λ later. nat_lt other later && (same other later && reach later event)) events)) events

-- the cut is that of the events as they reach each other, and of the tasks as they are the same
abbrev pub IsToldByReach : Type 0
IsToldByReach =
    (trees : List EventTree) (tasks : List ℕ) (reach same : ℕ → ℕ → Bool) → TellsReach trees reach → TellsTasks trees tasks same
    → (event : ℕ) → IsTrue (has_tree trees event) → cut_by_trees trees tasks event ≡ cut_by reach same (events_of trees) event
