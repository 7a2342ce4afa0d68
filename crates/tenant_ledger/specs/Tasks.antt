-- What is kept of a task.
use Rattle.std.specs.Prelude.{◌≡◌, false, true, List, Option, Some, None, slice_get}
use Rattle.trace_types.specs.text.Name.{Text}
use Rattle.trace_types.specs.tenant.Rows.{History, is_known, state_of, last_event, start_event}
use Rattle.trace_types.specs.clock.Clock.{tree_clock}
use Rattle.trace_types.specs.clock.Stamps.{id_of}
use Rattle.trace_types.specs.clock.Id.{Id}
use Rattle.trace_types.specs.declared.task_state.TaskState.TheVariants as state
use Rattle.tenant_ledger.specs.declared.book.task.Task.{Task}

-- what is kept of a name: nothing where there is no such task; of a joined task the id is not told
abbrev pub IsTask : List Id → History → Text → Option Task → Type 0
IsTask ids history name None = is_known history name ≡ false
IsTask ids history name (Some task) =
    (is_known history name ≡ true) × (task.state ≡ state_of history name) × (task.last ≡ last_event history name)
    × ((task.state ≡ state.Joined → ⊥) → slice_get ids task.id ≡ Some (id_of tree_clock history name))
    × (task.start ≡ start_event history name)
