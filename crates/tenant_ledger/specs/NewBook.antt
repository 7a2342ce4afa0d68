-- The book of a tenant that has reported nothing.
use Rattle.std.specs.Prelude.{ℕ, List, [], ◌∷◌}
use Rattle.trace_types.specs.text.Name.{root}
use Rattle.trace_types.specs.tenant.Limits.{Limits}
use Rattle.trace_types.specs.clock.Id.{One}
use Rattle.trace_types.specs.declared.task_state.TaskState.TheVariants as state
use Rattle.tenant_ledger.specs.declared.book.task.Task.{Task}
use Rattle.tenant_ledger.specs.Contents.{Contents}
use Rattle.tenant_ledger.specs.Room.{no_room}

-- the task with which each tenant starts
abbrev pub root_task : Task
root_task = record { state = state.Live; last = 0; start = 0; id = 0 }

-- the book of a tenant that has reported nothing, with so many ids kept
abbrev pub new_book : List ℕ → Limits → ℕ → Contents
new_book home limits kept_ids = record {
  home = home;
  limits = limits;
  rows = [];
  trees = [];
  homes = [];
  points = [];
  starts = [];
  places = [];
  ids = One ∷ [];
  kept_ids = kept_ids;
  tasks = (root, root_task) ∷ [];
  messages = [];
  room = no_room;
}
