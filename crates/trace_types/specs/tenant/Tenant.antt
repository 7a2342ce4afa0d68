-- One tenant by itself: what it is, and what a request does.
use Rattle.std.specs.Prelude.{◌≡◌, suc, Bool, true, false, not, IsTrue, List, [], ◌∷◌, ◌++◌, length, Option, Some, None, ◌⊎◌, if◌then◌else◌}
use Rattle.std.specs.List.{AllByRecursion}
use Rattle.trace_types.specs.text.Name.{Text}
use Rattle.trace_types.specs.tenant.Limits.{Limits}
use Rattle.trace_types.specs.tenant.Rows.{History, history_of, state_of, last_event, send_event, receipts, row_of, task_count, message_count}
use Rattle.trace_types.specs.clock.Stamps.{stamp_text_of}
use Rattle.trace_types.specs.tenant.Reachability.{predecessors, order_of, past_of, concurrent_with, cut_of}
use Rattle.trace_types.specs.tenant.Refusal.{refusal_of}
use Rattle.trace_types.specs.text.Text.{CanBeWritten}
use Rattle.trace_types.specs.declared.code.Code.{Code}
use Rattle.trace_types.specs.declared.code.Code.TheVariants.{NoEvent, NoMemory, ViewOnly}
use Rattle.trace_types.specs.declared.row.Row.{Row}
use Rattle.trace_types.specs.declared.row.Kind.{Kind}
use Rattle.trace_types.specs.declared.row.Kind.TheVariants as kind
use Rattle.trace_types.specs.declared.request.Request.{Request}
use Rattle.trace_types.specs.declared.request.Request.TheVariants.{Local, Spawn, Send, Recv, End, Join, Order, Past, Concurrent, Cut, Event, Stamp, Task, Message, Count}
use Rattle.trace_types.specs.declared.reply.Reply.{Reply}
use Rattle.trace_types.specs.declared.reply.Reply.TheVariants as reply

-- A tenant's whole state: its limits and its accepted rows, the oldest first. Event k is the k-th row, from 1.
pub record Tenant : Type 0 where
  pub limits : Limits
  pub rows : List Row

-- a tenant that has reported nothing
abbrev pub fresh : Limits → Tenant
fresh limits = record { limits = limits; rows = [] }

-- the row of a report after these rows
abbrev pub row_after : History → Text → Kind → Option Text → Row
row_after history task kind name = record { task = task; kind = kind; name = name; preds = predecessors history task kind name }

-- the answer to a report, and its row
abbrev pub accepted : History → Text → Kind → Option Text → Reply × Option Row
accepted history task kind name = (reply.Accepted (suc (length history)), Some (row_after history task kind name))

-- the answer that gives a row
abbrev pub row_reply : Option Row → Reply
row_reply None = reply.Refused NoEvent
row_reply (Some row) = reply.Event row

-- what a request that is not refused is answered, and the row that it adds where it is a report
abbrev pub answer_to : History → Request → Reply × Option Row
answer_to history (Local task) = accepted history task kind.Local None
answer_to history (Spawn task child) = accepted history task kind.Spawn (Some child)
answer_to history (Send task message) = accepted history task kind.Send (Some message)
answer_to history (Recv task message) = accepted history task kind.Recv (Some message)
answer_to history (End task) = accepted history task kind.End None
answer_to history (Join task child) = accepted history task kind.Join (Some child)
answer_to history (Order a b) = (reply.Ordering (order_of history a b), None)
answer_to history (Past event) = (reply.List (past_of history event), None)
answer_to history (Concurrent event) = (reply.List (concurrent_with history event), None)
answer_to history (Cut event) = (reply.List (cut_of history event), None)
answer_to history (Event event) = (row_reply (row_of history event), None)
answer_to history (Stamp event) = (reply.Stamp (stamp_text_of history event), None)
answer_to history (Task task) = (reply.Task (state_of history task) (last_event history task), None)
answer_to history (Message message) = (reply.Message (send_event history message) (receipts history message), None)
answer_to history Count = (reply.Count (length history) (task_count history) (message_count history), None)

-- the tenant with one row more, where there is one
abbrev pub with_row : Tenant → Option Row → Tenant
with_row tenant None = tenant
with_row tenant (Some row) = record tenant { rows = tenant.rows ++ row ∷ [] }

-- the reply to a request and the tenant after it, where the request is or is not refused
abbrev pub step_unless : Option Code → Tenant → Request → Reply × Tenant
step_unless (Some code) tenant request = (reply.Refused code, tenant)
step_unless None tenant request =
    let answer = answer_to (history_of tenant.rows) request in (answer.0, with_row tenant answer.1)

-- the reply to a request, and the tenant after it
abbrev pub step : Tenant → Request → Reply × Tenant
step tenant request = step_unless (refusal_of tenant.limits (history_of tenant.rows) request) tenant request

-- the tenant after requests, one after another
abbrev pub after : Tenant → List Request → Tenant
after tenant [] = tenant
after tenant (request ∷ requests) = after (step tenant request).1 requests

-- the replies to requests, one after another
abbrev pub replies : Tenant → List Request → List Reply
replies tenant [] = []
replies tenant (request ∷ requests) = (step tenant request).0 ∷ replies (step tenant request).1 requests

-- some requests, each of which can be written, leave these rows
abbrev pub AreLegal : Limits → List Row → Type 0
AreLegal limits rows =
    (requests : List Request) × AllByRecursion CanBeWritten requests × ((after (fresh limits) requests).rows ≡ rows)

-- whether the request reports something
abbrev pub is_report : Request → Bool
is_report (Local task) = true
is_report (Spawn task child) = true
is_report (Send task message) = true
is_report (Recv task message) = true
is_report (End task) = true
is_report (Join task child) = true
is_report (Order a b) = false
is_report (Past event) = false
is_report (Concurrent event) = false
is_report (Cut event) = false
is_report (Event event) = false
is_report (Stamp event) = false
is_report (Task task) = false
is_report (Message message) = false
is_report Count = false

-- the reply where reports are not taken
abbrev pub reply_to_view : Tenant → Request → Reply
reply_to_view tenant request = if is_report request then reply.Refused ViewOnly else (step tenant request).0

-- whether want of memory may be the answer to the request
abbrev pub may_lack_memory : Request → Bool
may_lack_memory (Local task) = true
may_lack_memory (Spawn task child) = true
may_lack_memory (Send task message) = true
may_lack_memory (Recv task message) = true
may_lack_memory (End task) = true
may_lack_memory (Join task child) = true
may_lack_memory (Order a b) = false
may_lack_memory (Past event) = true
may_lack_memory (Concurrent event) = true
may_lack_memory (Cut event) = true
may_lack_memory (Event event) = false
may_lack_memory (Stamp event) = true
may_lack_memory (Task task) = false
may_lack_memory (Message message) = true
may_lack_memory Count = false

-- Want of memory may be the answer: the request may lack memory, and is not refused.
abbrev pub MayLackMemory : Tenant → Request → Type 0
MayLackMemory tenant request =
    IsTrue (may_lack_memory request) × (refusal_of tenant.limits (history_of tenant.rows) request ≡ None)

-- The request did its step; or it was answered want of memory where that may be, and changed nothing.
abbrev pub Steps : Tenant → Request → Reply → Tenant → Type 0
Steps old request answer new =
    (step old request ≡ (answer, new)) ⊎ (MayLackMemory old request × (answer ≡ reply.Refused NoMemory) × (new ≡ old))

-- The request was answered where reports are not taken; or want of memory was, where that may be.
abbrev pub Answers : Tenant → Request → Reply → Type 0
Answers tenant request answer =
    (answer ≡ reply_to_view tenant request)
    ⊎ (IsTrue (not (is_report request)) × MayLackMemory tenant request × (answer ≡ reply.Refused NoMemory))
