-- What is made of the event of a report.
use Rattle.std.specs.Prelude.{◌≡◌, ℕ, suc, List, [], ◌∷◌, length, Option}
use Rattle.trace_types.specs.clock.Clock.{tree_clock}
use Rattle.trace_types.specs.clock.Stamps.{id_of, tree_of, of_named}
use Rattle.trace_types.specs.clock.Id.{Id, Zero}
use Rattle.trace_types.specs.clock.IdOperations.{split, sum}
use Rattle.trace_types.specs.clock.EventTree.{EventTree}
use Rattle.trace_types.specs.declared.row.Kind.{Kind}
use Rattle.trace_types.specs.declared.row.Kind.TheVariants.{Spawn, Join}
use Rattle.event_tree.specs.declared.point.RaisedPoint.{RaisedPoint}
use Rattle.tenant_ledger.specs.declared.book.report.Report.{Report}
use Rattle.tenant_ledger.specs.declared.book.ids.Ids.{Ids}
use Rattle.tenant_ledger.specs.declared.book.ids.Ids.TheVariants as ids
use Rattle.tenant_ledger.specs.Contents.{Contents, history_in}
use Rattle.tenant_ledger.specs.Points.{MayHavePoint}
use Rattle.tenant_ledger.specs.Reports.{kind_of, name_of, row_of_report}

-- the ids that a report of this kind makes, of its task's id and of that of the task that it names
abbrev pub ids_made : Kind → Id → Id → Ids
ids_made Spawn own named = ids.Split (split own).0 (split own).1
ids_made Join own named = ids.Sum (sum own named)
ids_made kind own named = ids.Same

abbrev pub made_ids : Ids → List Id
made_ids ids.Same = []
made_ids (ids.Split kept given) = kept ∷ given ∷ []
made_ids (ids.Sum id) = id ∷ []

-- the id with which the event is made, of a task that has this one
abbrev pub id_for : Ids → Id → Id
id_for ids.Same own = own
id_for (ids.Split kept given) own = own
id_for (ids.Sum id) own = id

-- the ids that the event of a report makes
abbrev pub ids_of_report : Contents → Report → List Id
ids_of_report book report =
    made_ids (ids_made (kind_of report.deed) (id_of tree_clock (history_in book) report.task) (of_named Zero (id_of tree_clock (history_in book)) (name_of report.deed)))

-- what is known after the event of a report
abbrev pub tree_of_report : Contents → Report → EventTree
tree_of_report book report = tree_of tree_clock (row_of_report book report ∷ history_in book) (suc (length (history_in book)))

-- a point that it raised, where one was found
abbrev pub MayRaise : Contents → Report → Option RaisedPoint → Type 0
MayRaise book report point = MayHavePoint (row_of_report book report ∷ history_in book) (suc (length (history_in book))) point

-- What is made of an event: what it knows, a point that it raised, and its ids.
pub record Made : Type 0 where
  -- where its tree is kept
  pub home : List ℕ
  pub tree : EventTree
  pub point : Option RaisedPoint
  pub ids : List Id

-- it is made of the event of a report
pub record IsMadeOf (book : Contents) (report : Report) (made : Made) : Type 0 where
  pub home : made.home ≡ book.home
  pub tree : made.tree ≡ tree_of_report book report
  pub point : MayRaise book report made.point
  pub ids : made.ids ≡ ids_of_report book report
