-- A book is kept for its rows.
use Rattle.std.specs.Prelude.{◌≡◌, ℕ, ◌≤◌, ◌<◌, All, length, map, Option, Some, slice_get}
use Rattle.trace_types.specs.text.Name.{Text}
use Rattle.trace_types.specs.tenant.Rows.{task_count}
use Rattle.trace_types.specs.clock.Clock.{tree_clock}
use Rattle.trace_types.specs.clock.Stamps.{tree_of}
use Rattle.trace_types.specs.tenant.Tenant.{AreLegal}
use Rattle.tenant_ledger.specs.declared.book.task.Task.{Task}
use Rattle.tenant_ledger.specs.Contents.{Contents, history_in, task_in}
use Rattle.tenant_ledger.specs.Tasks.{IsTask}
use Rattle.tenant_ledger.specs.Messages.{messages_of}
use Rattle.tenant_ledger.specs.Told.{of_each, id_after, start_of}
use Rattle.tenant_ledger.specs.Points.{ArePoints}

-- The book is kept for its rows, with these tasks.
pub record IsKeptWith (book : Contents) (tasks : Text → Option Task) (tasks_ever : ℕ) : Type 0 where
  pub legal : AreLegal book.limits book.rows
  pub small : length book.rows ≤ 16384
  pub trees : book.trees ≡ of_each (tree_of tree_clock) (history_in book)
  pub homes : All (λ home. home ≡ book.home) book.homes
  pub points : ArePoints (history_in book) book.points
  pub starts : book.starts ≡ of_each start_of (history_in book)
  pub places : map (slice_get book.ids) book.places ≡ map Some (of_each id_after (history_in book))
  pub tasks_are : (name : Text) → IsTask book.ids (history_in book) name (tasks name)
  pub counted : tasks_ever ≡ task_count (history_in book)
  pub messages : book.messages ≡ messages_of (history_in book)
  pub seeded : 0 < length book.rows → 0 < book.kept_ids

-- The book is kept for its rows, with the tasks that it has.
abbrev pub IsKept : Contents → Type 0
IsKept book = IsKeptWith book (task_in book) (length book.tasks)
