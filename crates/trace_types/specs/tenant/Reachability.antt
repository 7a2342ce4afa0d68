-- Happened-before (Lamport 1978) in the graph of one tenant's events: reachability along predecessors.
use Rattle.std.specs.Prelude.{◌≡◌, ℕ, suc, Bool, false, ◌||◌, List, [], ◌∷◌, length, if◌then◌else◌, ◌==◌, ◌<◌, nat_lt, not, ◌&&◌, filter, Option, Some, None, IsTrue, Contains}
use Rattle.std.specs.List.{list_any}
use Rattle.trace_types.specs.text.Name.{Text, is_same}
use Rattle.trace_types.specs.declared.row.Row.{Row}
use Rattle.trace_types.specs.tenant.Rows.{History, last_event, send_event, row_of, is_event, events}
use Rattle.trace_types.specs.declared.row.Kind.{Kind}
use Rattle.trace_types.specs.declared.row.Kind.TheVariants.{Local, Spawn, Send, Recv, End, Join}
use Rattle.trace_types.specs.declared.order.Order.{Order}
use Rattle.trace_types.specs.declared.order.Order.TheVariants.{Same, Before, After, Concurrent}

-- the event, where there is one
abbrev pub event_or_none : ℕ → List ℕ
event_or_none event = if event == 0 then [] else event ∷ []

-- the events among two numbers, increasing and each once; 0 is no event
abbrev pub increasing : ℕ → ℕ → List ℕ
increasing a b =
    if a == 0 then event_or_none b
    else if b == 0 then event_or_none a
    else if a == b then a ∷ []
    else if nat_lt a b then a ∷ b ∷ [] else b ∷ a ∷ []

-- the last event of the task that is named, or 0
abbrev pub last_of_named : History → Option Text → ℕ
last_of_named history None = 0
last_of_named history (Some name) = last_event history name

-- the event that sent the message that is named, or 0
abbrev pub send_of_named : History → Option Text → ℕ
send_of_named history None = 0
send_of_named history (Some name) = send_event history name

-- the event beside the acting task's last one that a report of this kind follows, or 0:
-- for a receive the message's send, for a join the joined task's last
abbrev pub second_event : History → Kind → Option Text → ℕ
second_event history Local name = 0
second_event history Spawn name = 0
second_event history Send name = 0
second_event history Recv name = send_of_named history name
second_event history End name = 0
second_event history Join name = last_of_named history name

-- what a report follows: the acting task's last event and the second one
abbrev pub predecessors : History → Text → Kind → Option Text → List ℕ
predecessors history task kind name = increasing (last_event history task) (second_event history kind name)

-- the predecessors of an event, from its row and the rows before it
abbrev pub predecessors_of : History → ℕ → List ℕ
predecessors_of [] event = []
predecessors_of (row ∷ earlier) event =
    if event == suc (length earlier) then predecessors earlier row.task row.kind row.name else predecessors_of earlier event

-- These events lead back from b to a: each is a predecessor of the one before it, the first of b, and the last is a.
abbrev pub LeadsBack : History → ℕ → List ℕ → ℕ → Type 0
LeadsBack history b [] a = b ≡ a
LeadsBack history b (event ∷ path) a = Contains (predecessors_of history b) event × LeadsBack history event path a

-- a reaches b: some path leads from b back to a, the empty one where they are the same
abbrev pub Reaches : History → ℕ → ℕ → Type 0
Reaches history a b = (path : List ℕ) × LeadsBack history b path a

-- whether a reaches b, found by walking back from b
abbrev pub reaches : History → ℕ → ℕ → Bool
reaches [] a b = b == a
reaches (row ∷ earlier) a b =
    if b == suc (length earlier)
    then (b == a) || list_any (λ event. reaches earlier a event) (predecessors earlier row.task row.kind row.name)
    else reaches earlier a b

-- how event a stands to event b
abbrev pub order_of : History → ℕ → ℕ → Order
order_of history a b =
    if a == b then Same
    else if reaches history a b then Before
    else if reaches history b a then After else Concurrent

-- the other events that reach the event, increasing
abbrev pub past_of : History → ℕ → List ℕ
past_of history event = filter (λ other. not (other == event) && reaches history other event) (events history)

-- the events that do not reach the event and are not reached from it, increasing
abbrev pub concurrent_with : History → ℕ → List ℕ
concurrent_with history event = filter (λ other. not (reaches history other event) && not (reaches history event other)) (events history)

-- whether both rows are there and have the same acting task
abbrev pub have_one_task : Option Row → Option Row → Bool
have_one_task None other = false
have_one_task (Some row) None = false
have_one_task (Some row) (Some other) = is_same row.task other.task

-- whether both are events of the same task
abbrev pub are_of_one_task : History → ℕ → ℕ → Bool
are_of_one_task history a b = have_one_task (row_of history a) (row_of history b)

-- whether a later event with the same task as this one reaches the event, too
abbrev pub is_outdated : History → ℕ → ℕ → Bool
is_outdated history event other =
    list_any (λ later. nat_lt other later && (are_of_one_task history other later && reaches history later event)) (events history)

-- the events that reach the event, itself among them, such that no later event with the same task reaches it; increasing
abbrev pub cut_of : History → ℕ → List ℕ
cut_of history event = filter (λ other. reaches history other event && not (is_outdated history event other)) (events history)

-- This event reaches the event, and is the last event of its task that does.
pub record IsLastToReach (history : History) (event other : ℕ) : Type 0 where
  pub there : IsTrue (is_event history other)
  pub reached : Reaches history other event
  pub last : (later : ℕ) → other < later → IsTrue (are_of_one_task history other later) → Reaches history later event → ⊥

-- Of these events exactly one is of the same task as this one.
pub record HasOneOfTask (history : History) (event : ℕ) (events : List ℕ) : Type 0 where
  pub one : ℕ
  pub among : Contains events one
  pub same : IsTrue (are_of_one_task history event one)
  pub alone : (other : ℕ) → Contains events other → IsTrue (are_of_one_task history event other) → other ≡ one
