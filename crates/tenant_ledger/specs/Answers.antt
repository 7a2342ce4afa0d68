-- What is answered from what is kept, and which answers are short.
use Rattle.std.specs.Prelude.{ℕ, Bool, true, false, List, Option, Some, None, Result, Ok, Err, if◌then◌else◌}
use Rattle.trace_types.specs.text.Name.{Text}
use Rattle.trace_types.specs.tenant.Rows.{History, is_known, state_of, last_event, is_sent, send_event, receipts}
use Rattle.trace_types.specs.declared.code.Code.{Code}
use Rattle.trace_types.specs.declared.code.Code.TheVariants.{NoEvent, NoMemory}
use Rattle.trace_types.specs.declared.request.Request.{Request}
use Rattle.trace_types.specs.declared.request.Request.TheVariants as request
use Rattle.trace_types.specs.declared.order.Order.{Order}
use Rattle.trace_types.specs.declared.reply.Reply.{Reply}
use Rattle.trace_types.specs.declared.reply.Reply.TheVariants as reply
use Rattle.trace_types.specs.declared.task_state.TaskState.{TaskState}
use Rattle.trace_query.specs.declared.queries.QueryFault.{QueryFault}
use Rattle.trace_query.specs.declared.queries.QueryFault.TheVariants.{Unknown, Memory}

-- how far the task has come and its last event, where there is such a task
abbrev pub task_due : History → Text → Option (TaskState × ℕ)
task_due history task = if is_known history task then Some (state_of history task, last_event history task) else None

-- the send of the message and its receipts, where there is such a message
abbrev pub message_due : History → Text → Option (ℕ × List ℕ)
message_due history message = if is_sent history message then Some (send_event history message, receipts history message) else None

-- the code with which a query about events is refused
abbrev pub code_of : QueryFault → Code
code_of Unknown = NoEvent
code_of Memory = NoMemory

-- the reply that tells an order, or why there is none
abbrev pub order_answer : Result Order Code → Reply
order_answer (Ok order) = reply.Ordering order
order_answer (Err code) = reply.Refused code

-- the reply that tells the number of a report's event, or why the report is refused
abbrev pub taken_answer : Result ℕ Code → Reply
taken_answer (Ok event) = reply.Accepted event
taken_answer (Err code) = reply.Refused code

-- the request is one whose answer is short
abbrev pub is_brief : Request → Bool
is_brief (request.Order first second) = true
is_brief request.Count = true
is_brief other = false
