-- How requests and replies are written.
use Rattle.std.specs.Prelude.{◌≡◌, ℕ, ◌^◌, ◌<◌, IsTrue, List, [], ◌∷◌, ◌++◌, length, Option, Some, None, codes}
use Rattle.std.specs.Fmt.{decimal}
use Rattle.trace_types.specs.text.Name.{Text, is_name}
use Rattle.trace_types.specs.tenant.Code.{code_number, code_text}
use Rattle.trace_types.specs.declared.order.Order.{Order}
use Rattle.trace_types.specs.declared.order.Order.TheVariants.{Same, Before, After, Concurrent}
use Rattle.trace_types.specs.declared.task_state.TaskState.{TaskState}
use Rattle.trace_types.specs.declared.task_state.TaskState.TheVariants.{Live, Ended, Joined}
use Rattle.trace_types.specs.declared.row.Kind.{Kind}
use Rattle.trace_types.specs.declared.row.Kind.TheVariants as kind
use Rattle.trace_types.specs.declared.request.Request.{Request}
use Rattle.trace_types.specs.declared.request.Request.TheVariants as request
use Rattle.trace_types.specs.declared.reply.Reply.{Reply}
use Rattle.trace_types.specs.declared.reply.Reply.TheVariants as reply

-- how one event stands to another, in words
abbrev pub order_text : Order → Text
order_text Same = codes "same"
order_text Before = codes "before"
order_text After = codes "after"
order_text Concurrent = codes "concurrent"

-- how far a task has come, in a word
abbrev pub state_text : TaskState → Text
state_text Live = codes "live"
state_text Ended = codes "ended"
state_text Joined = codes "joined"

-- the kind of a report, in a word
abbrev pub kind_text : Kind → Text
kind_text kind.Local = codes "local"
kind_text kind.Spawn = codes "spawn"
kind_text kind.Send = codes "send"
kind_text kind.Recv = codes "recv"
kind_text kind.End = codes "end"
kind_text kind.Join = codes "join"

-- the name, or `-` where there is none
abbrev pub name_text : Option Text → Text
name_text None = codes "-"
name_text (Some name) = name

-- numbers, with a blank before each
abbrev pub numbers_text : List ℕ → Text
numbers_text [] = []
numbers_text (n ∷ numbers) = codes " " ++ decimal n ++ numbers_text numbers

-- how many numbers there are, and the numbers
abbrev pub list_text : List ℕ → Text
list_text numbers = decimal (length numbers) ++ numbers_text numbers

-- a reply without its end of line
abbrev pub reply_text : Reply → Text
reply_text (reply.Accepted event) = codes "201 " ++ decimal event
reply_text (reply.Ordering order) = codes "200 " ++ order_text order
reply_text (reply.List events) = codes "200 " ++ list_text events
reply_text (reply.Event row) =
    codes "200 " ++ kind_text row.kind ++ codes " " ++ row.task ++ codes " " ++ name_text row.name ++ codes " " ++ list_text row.preds
reply_text (reply.Stamp text) = codes "200 " ++ text
reply_text (reply.Task state last) = codes "200 " ++ state_text state ++ codes " " ++ decimal last
reply_text (reply.Message sent receipts) = codes "200 " ++ decimal sent ++ codes " " ++ list_text receipts
reply_text (reply.Count events tasks messages) = codes "200 " ++ decimal events ++ codes " " ++ decimal tasks ++ codes " " ++ decimal messages
reply_text (reply.Refused code) = decimal (code_number code) ++ codes " " ++ code_text code

-- a request without its end of line
abbrev pub request_text : Request → Text
request_text (request.Local task) = codes "local " ++ task
request_text (request.Spawn task child) = codes "spawn " ++ task ++ codes " " ++ child
request_text (request.Send task message) = codes "send " ++ task ++ codes " " ++ message
request_text (request.Recv task message) = codes "recv " ++ task ++ codes " " ++ message
request_text (request.End task) = codes "end " ++ task
request_text (request.Join task child) = codes "join " ++ task ++ codes " " ++ child
request_text (request.Order a b) = codes "order " ++ decimal a ++ codes " " ++ decimal b
request_text (request.Past event) = codes "past " ++ decimal event
request_text (request.Concurrent event) = codes "concurrent " ++ decimal event
request_text (request.Cut event) = codes "cut " ++ decimal event
request_text (request.Event event) = codes "event " ++ decimal event
request_text (request.Stamp event) = codes "stamp " ++ decimal event
request_text (request.Task task) = codes "task " ++ task
request_text (request.Message message) = codes "message " ++ message
request_text request.Count = codes "count"

-- what a number in a request may be: one to nine digits
abbrev pub IsNumber : ℕ → Type 0
IsNumber n = n < 10 ^ 9

-- whether each part of the request can be written in a request
abbrev pub CanBeWritten : Request → Type 0
CanBeWritten (request.Local task) = IsTrue (is_name task)
CanBeWritten (request.Spawn task child) = IsTrue (is_name task) × IsTrue (is_name child)
CanBeWritten (request.Send task message) = IsTrue (is_name task) × IsTrue (is_name message)
CanBeWritten (request.Recv task message) = IsTrue (is_name task) × IsTrue (is_name message)
CanBeWritten (request.End task) = IsTrue (is_name task)
CanBeWritten (request.Join task child) = IsTrue (is_name task) × IsTrue (is_name child)
CanBeWritten (request.Order a b) = IsNumber a × IsNumber b
CanBeWritten (request.Past event) = IsNumber event
CanBeWritten (request.Concurrent event) = IsNumber event
CanBeWritten (request.Cut event) = IsNumber event
CanBeWritten (request.Event event) = IsNumber event
CanBeWritten (request.Stamp event) = IsNumber event
CanBeWritten (request.Task task) = IsTrue (is_name task)
CanBeWritten (request.Message message) = IsTrue (is_name message)
CanBeWritten request.Count = Unit {0}

-- the line spells the request
abbrev pub Spells : Text → Request → Type 0
Spells line request = CanBeWritten request × (line ≡ request_text request)
