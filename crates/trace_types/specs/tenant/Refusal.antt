-- When a request is refused, and with which code.
use Rattle.std.specs.Prelude.{Bool, not, List, [], ◌∷◌, length, Option, Some, None, if◌then◌else◌, nat_le}
use Rattle.trace_types.specs.tenant.Limits.{Limits}
use Rattle.trace_types.specs.tenant.Rows.{History, is_known, is_ended, is_joined, is_sent, has_received, is_event, task_count, message_count}
use Rattle.trace_types.specs.declared.code.Code.{Code}
use Rattle.trace_types.specs.declared.code.Code.TheVariants.{NoTask, TaskExists, TaskEnded, NoEvent, NoMessage, MessageExists, AlreadyReceived, NotEnded, AlreadyJoined, EventsFull, TasksFull, MessagesFull}
use Rattle.trace_types.specs.declared.request.Request.{Request}
use Rattle.trace_types.specs.declared.request.Request.TheVariants.{Local, Spawn, Send, Recv, End, Join, Order, Past, Concurrent, Cut, Event, Stamp, Task, Message, Count}

-- whether the tenant has all the events that it may have
abbrev pub has_all_events : Limits → History → Bool
has_all_events limits history = nat_le limits.events (length history)

-- whether the tenant ever had all the tasks that it may have
abbrev pub has_all_tasks : Limits → History → Bool
has_all_tasks limits history = nat_le limits.tasks (task_count history)

-- whether the tenant sent all the messages that it may send
abbrev pub has_all_messages : Limits → History → Bool
has_all_messages limits history = nat_le limits.messages (message_count history)

-- what a request is refused for, each with the test for it, in the order in which they are looked at
abbrev pub refusals : Limits → History → Request → List (Bool × Code)
refusals limits history (Local task) =
    (not (is_known history task), NoTask) ∷ (is_ended history task, TaskEnded) ∷ (has_all_events limits history, EventsFull) ∷ []
refusals limits history (Spawn task child) =
    (not (is_known history task), NoTask) ∷ (is_ended history task, TaskEnded) ∷ (is_known history child, TaskExists)
    ∷ (has_all_tasks limits history, TasksFull) ∷ (has_all_events limits history, EventsFull) ∷ []
refusals limits history (Send task message) =
    (not (is_known history task), NoTask) ∷ (is_ended history task, TaskEnded) ∷ (is_sent history message, MessageExists)
    ∷ (has_all_messages limits history, MessagesFull) ∷ (has_all_events limits history, EventsFull) ∷ []
refusals limits history (Recv task message) =
    (not (is_known history task), NoTask) ∷ (is_ended history task, TaskEnded) ∷ (not (is_sent history message), NoMessage)
    ∷ (has_received history task message, AlreadyReceived) ∷ (has_all_events limits history, EventsFull) ∷ []
refusals limits history (End task) =
    (not (is_known history task), NoTask) ∷ (is_ended history task, TaskEnded) ∷ (has_all_events limits history, EventsFull) ∷ []
refusals limits history (Join task child) =
    (not (is_known history task), NoTask) ∷ (is_ended history task, TaskEnded) ∷ (not (is_known history child), NoTask)
    ∷ (not (is_ended history child), NotEnded) ∷ (is_joined history child, AlreadyJoined) ∷ (has_all_events limits history, EventsFull) ∷ []
refusals limits history (Order a b) = (not (is_event history a), NoEvent) ∷ (not (is_event history b), NoEvent) ∷ []
refusals limits history (Past event) = (not (is_event history event), NoEvent) ∷ []
refusals limits history (Concurrent event) = (not (is_event history event), NoEvent) ∷ []
refusals limits history (Cut event) = (not (is_event history event), NoEvent) ∷ []
refusals limits history (Event event) = (not (is_event history event), NoEvent) ∷ []
refusals limits history (Stamp event) = (not (is_event history event), NoEvent) ∷ []
refusals limits history (Task task) = (not (is_known history task), NoTask) ∷ []
refusals limits history (Message message) = (not (is_sent history message), NoMessage) ∷ []
refusals limits history Count = []

-- the first code whose test holds
abbrev pub first_code : List (Bool × Code) → Option Code
first_code [] = None
first_code (refusal ∷ others) = if refusal.0 then Some refusal.1 else first_code others

-- the code with which the request is refused, want of memory aside
abbrev pub refusal_of : Limits → History → Request → Option Code
refusal_of limits history request = first_code (refusals limits history request)
