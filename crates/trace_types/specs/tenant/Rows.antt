-- What the accepted rows of one tenant say, found by search. A history is the rows, the newest first,
-- so the event number of its first row is the length of the history.
use Rattle.std.specs.Prelude.{ℕ, suc, ◌+◌, Bool, true, false, ◌||◌, ◌&&◌, List, [], ◌∷◌, ◌++◌, length, reverse, Option, Some, None, if◌then◌else◌, ◌==◌, nat_lt, count_by}
use Rattle.std.specs.List.{list_any, range_with_len}
use Rattle.trace_types.specs.text.Name.{Text, is_same, root}
use Rattle.trace_types.specs.declared.row.Row.{Row}
use Rattle.trace_types.specs.declared.row.Kind.{Kind}
use Rattle.trace_types.specs.declared.row.Kind.TheVariants.{Local, Spawn, Send, Recv, End, Join}
use Rattle.trace_types.specs.declared.task_state.TaskState.{TaskState}
use Rattle.trace_types.specs.declared.task_state.TaskState.TheVariants.{Live, Ended, Joined}

abbrev pub History : Type 0
History = List Row

-- the rows, the newest first
abbrev pub history_of : List Row → History
history_of rows = reverse rows

-- whether a report of this kind starts the task that it names
abbrev pub starts_task : Kind → Bool
starts_task Local = false
starts_task Spawn = true
starts_task Send = false
starts_task Recv = false
starts_task End = false
starts_task Join = false

-- whether a report of this kind ends its task
abbrev pub ends_task : Kind → Bool
ends_task Local = false
ends_task Spawn = false
ends_task Send = false
ends_task Recv = false
ends_task End = true
ends_task Join = false

-- whether a report of this kind takes the task in that it names
abbrev pub joins_task : Kind → Bool
joins_task Local = false
joins_task Spawn = false
joins_task Send = false
joins_task Recv = false
joins_task End = false
joins_task Join = true

-- whether a report of this kind sends the message that it names
abbrev pub sends_message : Kind → Bool
sends_message Local = false
sends_message Spawn = false
sends_message Send = true
sends_message Recv = false
sends_message End = false
sends_message Join = false

-- whether a report of this kind receives the message that it names
abbrev pub receives_message : Kind → Bool
receives_message Local = false
receives_message Spawn = false
receives_message Send = false
receives_message Recv = true
receives_message End = false
receives_message Join = false

-- whether the row names the task or message beside its acting task
abbrev pub names : Row → Text → Bool
names row name = names_in row.name name
  where
    names_in : Option Text → Text → Bool
    names_in None name = false
    names_in (Some other) name = is_same other name

-- whether the row is the report that started the task
abbrev pub starts : Text → Row → Bool
starts task row = starts_task row.kind && names row task

-- whether the row is the report that ended the task
abbrev pub ends : Text → Row → Bool
ends task row = ends_task row.kind && is_same row.task task

-- whether the row is the report that took the task in
abbrev pub joins : Text → Row → Bool
joins task row = joins_task row.kind && names row task

-- whether the row is the report that sent the message
abbrev pub sends : Text → Row → Bool
sends message row = sends_message row.kind && names row message

-- whether the row is a report that received the message
abbrev pub receives : Text → Row → Bool
receives message row = receives_message row.kind && names row message

-- whether the row is a report by which the task received the message
abbrev pub receives_by : Text → Text → Row → Bool
receives_by task message row = receives message row && is_same row.task task

-- whether the row is an event of the task
abbrev pub is_of : Text → Row → Bool
is_of task row = is_same row.task task

-- `root`, and each task that some row started
abbrev pub is_known : History → Text → Bool
is_known history task = is_same task root || list_any (starts task) history

-- the task has ended; perhaps it was joined since
abbrev pub is_ended : History → Text → Bool
is_ended history task = list_any (ends task) history

-- some task has joined it
abbrev pub is_joined : History → Text → Bool
is_joined history task = list_any (joins task) history

-- some row sent the message
abbrev pub is_sent : History → Text → Bool
is_sent history message = list_any (sends message) history

-- the task has received the message
abbrev pub has_received : History → Text → Text → Bool
has_received history task message = list_any (receives_by task message) history

-- how far the task has come
abbrev pub state_of : History → Text → TaskState
state_of history task = if is_joined history task then Joined else if is_ended history task then Ended else Live

-- the newest event whose row passes the test, or 0
abbrev pub newest : (Row → Bool) → History → ℕ
newest test [] = 0
newest test (row ∷ earlier) = if test row then suc (length earlier) else newest test earlier

-- the event that started the task, or 0, as for `root`
abbrev pub start_event : History → Text → ℕ
start_event history task = newest (starts task) history

-- the newest event of the task, else the event that started it, else 0
abbrev pub last_event : History → Text → ℕ
last_event history task = if newest (is_of task) history == 0 then start_event history task else newest (is_of task) history

-- the event that sent the message, or 0
abbrev pub send_event : History → Text → ℕ
send_event history message = newest (sends message) history

-- the events that received the message, increasing
abbrev pub receipts : History → Text → List ℕ
receipts [] message = []
receipts (row ∷ earlier) message =
    if receives message row then receipts earlier message ++ suc (length earlier) ∷ [] else receipts earlier message

-- the row of the event, where there is one
abbrev pub row_of : History → ℕ → Option Row
row_of [] event = None
row_of (row ∷ earlier) event = if event == suc (length earlier) then Some row else row_of earlier event

-- the events, increasing
abbrev pub events : History → List ℕ
events history = range_with_len 1 (length history)

-- whether there is an event of this number
abbrev pub is_event : History → ℕ → Bool
is_event history event = nat_lt 0 event && nat_lt event (suc (length history))

-- how many rows started a task
abbrev pub spawn_count : History → ℕ
spawn_count history = count_by (λ row. starts_task row.kind) history

-- how many tasks there ever were
abbrev pub task_count : History → ℕ
task_count history = 1 + spawn_count history

-- how many messages there are
abbrev pub message_count : History → ℕ
message_count history = count_by (λ row. sends_message row.kind) history
