-- What queries about the order of events are due, from the list of the events' trees: event k has the k-th, from 1.
use Rattle.std.specs.Prelude.{◌≡◌, ℕ, suc, ◌-◌, ◌<◌, ◌≤◌, Bool, not, ◌&&◌, IsTrue, List, [], length, ◌==◌, nat_lt, if◌then◌else◌, Result, Ok, Err, IfOk, IfErr}
use Rattle.std.specs.Global.{Vec}
use Rattle.std.specs.List.{slice_index_or, filter, list_any, range_with_len}
use Rattle.trace_types.specs.clock.EventTree.{EventTree, Leaf}
use Rattle.trace_types.specs.declared.order.Order.{Order}
use Rattle.trace_types.specs.declared.order.Order.TheVariants.{Before, Concurrent}
use Rattle.event_tree.specs.Comparison.{IsBelow}
use Rattle.trace_query.specs.Compared.{is_below, tree_order, is_order}
use Rattle.trace_query.specs.declared.queries.QueryFault.{QueryFault}
use Rattle.trace_query.specs.declared.queries.QueryFault.TheVariants.{Unknown, Memory}

-- whether there is an event of this number
abbrev pub has_tree : List EventTree → ℕ → Bool
has_tree trees event = nat_lt 0 event && nat_lt event (suc (length trees))

-- the events, increasing: from 1 to the number of trees
abbrev pub events_of : List EventTree → List ℕ
events_of trees = range_with_len 1 (length trees)

-- the tree of the event; of no event it is not asked
abbrev pub tree_at : List EventTree → ℕ → EventTree
tree_at trees event = slice_index_or trees (event - 1) (Leaf 0)

-- the trees stand in the order of the events: no later event's tree is below an earlier one's
abbrev pub StandInOrder : List EventTree → Type 0
StandInOrder trees =
    (earlier later : ℕ) → IsTrue (has_tree trees earlier) → IsTrue (has_tree trees later) → earlier < later
    → ¬ IsBelow (tree_at trees later) (tree_at trees earlier)

-- how the tree of the first event stands to that of the second
abbrev pub order_between : List EventTree → ℕ → ℕ → Order
order_between trees first second = tree_order (tree_at trees first) (tree_at trees second)

-- whether the first event is another one than the second, and stands so to it
abbrev pub is_other_standing : Order → List EventTree → ℕ → ℕ → Bool
is_other_standing wanted trees first second = not (first == second) && is_order wanted (order_between trees first second)

-- the events that are another one than the event, and stand so to it
abbrev pub others_standing : Order → List EventTree → ℕ → List ℕ
others_standing wanted trees event = filter (λ other. is_other_standing wanted trees other event) (events_of trees)

-- the other events before the event
abbrev pub trees_before : List EventTree → ℕ → List ℕ
trees_before trees event = others_standing Before trees event

-- the other events that are concurrent with the event
abbrev pub concurrent_of : List EventTree → ℕ → List ℕ
concurrent_of trees event = others_standing Concurrent trees event

-- the number of the event's task; of no event it is not asked
abbrev pub task_at : List ℕ → ℕ → ℕ
task_at tasks event = slice_index_or tasks (event - 1) 0

-- the number of each event's task is less than the event
abbrev pub ComeBefore : List ℕ → Type 0
ComeBefore tasks = (event : ℕ) → 0 < event → event ≤ length tasks → task_at tasks event < event

-- whether a later event with the same task as this one is below the event, too
abbrev pub is_outdated_by_trees : List EventTree → List ℕ → ℕ → ℕ → Bool
is_outdated_by_trees trees tasks event other =
    list_any (λ later. nat_lt other later && ((task_at tasks other == task_at tasks later) && is_below (tree_at trees later) (tree_at trees event))) (events_of trees)

-- the events whose trees are below that of the event, its own among them, each the last of its task that is; increasing
abbrev pub cut_by_trees : List EventTree → List ℕ → ℕ → List ℕ
cut_by_trees trees tasks event =
    filter (λ other. is_below (tree_at trees other) (tree_at trees event) && not (is_outdated_by_trees trees tasks event other)) (events_of trees)

-- what is answered when the order of two events is asked for
abbrev pub order_due : List EventTree → ℕ → ℕ → Result Order QueryFault
order_due trees first second = if has_tree trees first && has_tree trees second then Ok (order_between trees first second) else Err Unknown

-- why a list is refused for this event, if it is
abbrev pub fault_due : List EventTree → ℕ → QueryFault
fault_due trees event = if has_tree trees event then Memory else Unknown

-- a list of events for each list of trees and each event
abbrev pub Lists : Type 0
Lists = List EventTree → ℕ → List ℕ

-- the result is the list of the event, exactly, or why it is refused
pub record ListsExactly (list_of : Lists) (trees : List EventTree) (event : ℕ) (result : Result (Vec ℕ) QueryFault) : Type 0 where
  -- what is no event has no list
  pub known : IfOk result (λ _. IsTrue (has_tree trees event))
  pub events : IfOk result (λ events. events.items ≡ list_of trees event)
  pub fault : IfErr result (λ fault. fault ≡ fault_due trees event)
  -- a list that has no event wants no memory
  pub empty : list_of trees event ≡ [] → IfErr result (λ fault. fault ≡ Unknown)
