-- What a report is refused for.
use Rattle.std.specs.Prelude.{◌≡◌, not, Bool, List, [], ◌∷◌, ◌++◌, Option, Some, Result, Ok, Err}
use Rattle.trace_types.specs.text.Name.{Text}
use Rattle.trace_types.specs.tenant.Limits.{Limits}
use Rattle.trace_types.specs.tenant.Rows.{History, is_known, is_ended, is_joined, is_sent, has_received}
use Rattle.trace_types.specs.tenant.Refusal.{first_code, refusals, has_all_events, has_all_tasks, has_all_messages}
use Rattle.trace_types.specs.clock.EventTree.{value}
use Rattle.trace_types.specs.declared.code.Code.{Code}
use Rattle.trace_types.specs.declared.row.Kind.{Kind}
use Rattle.trace_types.specs.declared.row.Kind.TheVariants.{Spawn, Send, Recv, Join}
use Rattle.trace_types.specs.declared.request.Reported.{Reported}
use Rattle.trace_types.specs.declared.code.Code.TheVariants.{NoTask, TaskExists, TaskEnded, NoMessage, MessageExists, AlreadyReceived, NotEnded, AlreadyJoined, EventsFull, TasksFull, MessagesFull}

-- A refusal is the first of these; where there is none, none of these applies.
abbrev pub Decides : {A : Type 0} → List (Bool × Code) → Result A Code → Type 0
Decides refusals (Ok value) = (others : List (Bool × Code)) → first_code (refusals ++ others) ≡ first_code others
Decides refusals (Err code) = (others : List (Bool × Code)) → first_code (refusals ++ others) ≡ Some code

-- what each report is refused for first, and last
abbrev pub refusals_of_task : History → Text → List (Bool × Code)
refusals_of_task history task = (not (is_known history task), NoTask) ∷ (is_ended history task, TaskEnded) ∷ []

abbrev pub refusals_of_room : Limits → History → List (Bool × Code)
refusals_of_room limits history = (has_all_events limits history, EventsFull) ∷ []

-- what it is refused for in between: for the task that it starts, the message that it sends or receives, the task that it takes in
abbrev pub refusals_of_child : Limits → History → Text → List (Bool × Code)
refusals_of_child limits history child = (is_known history child, TaskExists) ∷ (has_all_tasks limits history, TasksFull) ∷ []

abbrev pub refusals_of_sent : Limits → History → Text → List (Bool × Code)
refusals_of_sent limits history message = (is_sent history message, MessageExists) ∷ (has_all_messages limits history, MessagesFull) ∷ []

abbrev pub refusals_of_received : History → Text → Text → List (Bool × Code)
refusals_of_received history task message =
    (not (is_sent history message), NoMessage) ∷ (has_received history task message, AlreadyReceived) ∷ []

abbrev pub refusals_of_joined : History → Text → List (Bool × Code)
refusals_of_joined history child =
    (not (is_known history child), NoTask) ∷ (not (is_ended history child), NotEnded) ∷ (is_joined history child, AlreadyJoined) ∷ []

-- so it is for what a report of the task and of this kind names
abbrev pub refusals_of_named : Limits → History → Text → Kind → Option Text → List (Bool × Code)
refusals_of_named limits history task Spawn (Some child) = refusals_of_child limits history child
refusals_of_named limits history task Send (Some message) = refusals_of_sent limits history message
refusals_of_named limits history task Recv (Some message) = refusals_of_received history task message
refusals_of_named limits history task Join (Some child) = refusals_of_joined history child
refusals_of_named limits history task kind name = []

-- all of it, in the order in which it is looked at
abbrev pub refusals_of_report : Limits → History → Reported → List (Bool × Code)
refusals_of_report limits history report =
    refusals_of_task history report.task ++ refusals_of_named limits history report.task report.kind report.name ++ refusals_of_room limits history
