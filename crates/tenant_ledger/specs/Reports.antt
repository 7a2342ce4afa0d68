-- Reports that are not refused.
use Rattle.std.specs.Prelude.{◌≡◌, ℕ, ◌<◌, [], ◌∷◌, ◌++◌, length, nat_eq, Option, Some, None, IsSome}
use Rattle.std.specs.Option.{option_map}
use Rattle.message_book.specs.Book.{entry_of, refusal_of_receive, refusal_of_send}
use Rattle.trace_types.specs.text.Name.{Text}
use Rattle.trace_types.specs.tenant.Tenant.{AreLegal, row_after}
use Rattle.trace_types.specs.declared.row.Row.{Row}
use Rattle.trace_types.specs.declared.row.Kind.{Kind}
use Rattle.trace_types.specs.declared.row.Kind.TheVariants.{Local, Spawn, Send, Recv, End, Join}
use Rattle.tenant_ledger.specs.declared.book.report.Report.{Report}
use Rattle.tenant_ledger.specs.declared.book.report.Deed.{Deed}
use Rattle.tenant_ledger.specs.declared.book.report.Deed.TheVariants as deed
use Rattle.tenant_ledger.specs.Contents.{Contents, history_in, messages_in, task_in}

-- what its kind is, and what it names
abbrev pub kind_of : Deed → Kind
kind_of deed.Local = Local
kind_of (deed.Spawn child) = Spawn
kind_of (deed.Send message) = Send
kind_of (deed.Recv message place sent) = Recv
kind_of deed.End = End
kind_of (deed.Join child place found) = Join

abbrev pub name_of : Deed → Option Text
name_of deed.Local = None
name_of (deed.Spawn child) = Some child
name_of (deed.Send message) = Some message
name_of (deed.Recv message place sent) = Some message
name_of deed.End = None
name_of (deed.Join child place found) = Some child

-- the event that it follows beside the last one of its task, or 0
abbrev pub second_of : Deed → ℕ
second_of (deed.Recv message place sent) = sent
second_of (deed.Join child place found) = found.last
second_of deed = 0

-- What the book has of what it joins or receives. A message that it sends can be sent, and one that it receives can be received by
-- the task that this event started.
abbrev pub IsFound : Contents → ℕ → Deed → Type 0
IsFound book start (deed.Send message) = refusal_of_send (messages_in book) message ≡ None
IsFound book start (deed.Recv message place sent) =
    (refusal_of_receive nat_eq (messages_in book) message start ≡ None) × (option_map (λ entry. entry.sent) (entry_of book.messages message) ≡ Some sent)
IsFound book start (deed.Join child place found) = task_in book child ≡ Some found
IsFound book start deed = Unit {0}

-- a report of this kind names something, or nothing
abbrev pub IsNamed : Kind → Option Text → Type 0
IsNamed Local name = name ≡ None
IsNamed End name = name ≡ None
IsNamed kind name = IsSome name

-- the row of a report
abbrev pub row_of_report : Contents → Report → Row
row_of_report book report = row_after (history_in book) report.task (kind_of report.deed) (name_of report.deed)

-- The report is not refused, and this is what the book has of those that it speaks of.
pub record IsReport (book : Contents) (report : Report) : Type 0 where
  pub legal : AreLegal book.limits (book.rows ++ row_of_report book report ∷ [])
  pub few : length book.rows < 16384
  pub acting : task_in book report.task ≡ Some report.acting
  pub found : IsFound book report.acting.start report.deed
