-- What is to be kept of an event.
use Rattle.std.specs.Prelude.{ℕ, suc, List, length, Option, Some, None}
use Rattle.trace_types.specs.clock.Id.{Id}
use Rattle.trace_types.specs.clock.EventTree.{EventTree}
use Rattle.trace_types.specs.declared.row.Row.{Row}
use Rattle.trace_types.specs.declared.task_state.TaskState.TheVariants as state
use Rattle.event_tree.specs.declared.point.RaisedPoint.{RaisedPoint}
use Rattle.tenant_ledger.specs.declared.book.task.Task.{Task}
use Rattle.tenant_ledger.specs.declared.book.report.Report.{Report}
use Rattle.tenant_ledger.specs.declared.book.report.Deed.{Deed}
use Rattle.tenant_ledger.specs.declared.book.report.Deed.TheVariants as deed
use Rattle.tenant_ledger.specs.Contents.{Contents, history_in}
use Rattle.tenant_ledger.specs.Reports.{row_of_report}
use Rattle.tenant_ledger.specs.Making.{ids_of_report, tree_of_report}

-- what is to be kept of its task, as this event and with the first of these ids at this place
abbrev pub acting_after : Deed → ℕ → ℕ → Task → Task
acting_after (deed.Spawn child) event place task = record task { last = event; id = place }
acting_after deed.End event place task = record task { last = event; state = state.Ended }
acting_after (deed.Join child there found) event place task = record task { last = event; id = place }
acting_after deed event place task = record task { last = event }

-- what is to be kept of the task that it starts or takes in
abbrev pub named_after : Deed → ℕ → ℕ → Option Task
named_after (deed.Spawn child) event place = Some (record { state = state.Live; last = event; id = suc place; start = event })
named_after (deed.Join child there found) event place = Some (record found { state = state.Joined })
named_after deed event place = None

-- What is to be kept of an event: its row, what it knows, a point that it raised, and its ids. So are its tasks.
pub record Event : Type 0 where
  -- where its tree is kept
  pub home : List ℕ
  pub row : Row
  pub tree : EventTree
  pub point : Option RaisedPoint
  pub ids : List Id
  pub acting : Task
  pub named : Option Task

-- what is to be kept of a report, with this point
abbrev pub event_of : Contents → Report → Option RaisedPoint → Event
event_of book report point = record {
  home = book.home;
  row = row_of_report book report;
  tree = tree_of_report book report;
  point = point;
  ids = ids_of_report book report;
  acting = acting_after report.deed (suc (length (history_in book))) (length book.ids) report.acting;
  named = named_after report.deed (suc (length (history_in book))) (length book.ids);
}
