-- A book with one event more.
use Rattle.std.specs.Prelude.{◌≡◌, ℕ, suc, ◌+◌, if◌then◌else◌, List, [], ◌∷◌, ◌++◌, length, nat_eq, Option, Some, None, is_some, slice_get}
use Rattle.indexmap.specs.IndexMap.{insert_entry}
use Rattle.trace_types.specs.text.Name.{Text, is_same}
use Rattle.trace_types.specs.clock.Clock.{tree_clock}
use Rattle.trace_types.specs.clock.Stamps.{id_of}
use Rattle.trace_types.specs.clock.Id.{Id}
use Rattle.trace_types.specs.clock.EventTree.{value}
use Rattle.trace_types.specs.declared.row.Kind.{Kind}
use Rattle.trace_types.specs.declared.row.Kind.TheVariants.{Send, Recv}
use Rattle.message_book.specs.Book.{Book, Messages, after_receive, after_send}
use Rattle.tenant_ledger.specs.declared.book.task.Task.{Task}
use Rattle.tenant_ledger.specs.Contents.{Contents, history_in, messages_in, task_in}
use Rattle.tenant_ledger.specs.Kept.{IsKept}
use Rattle.tenant_ledger.specs.Room.{HasRoom}
use Rattle.tenant_ledger.specs.Events.{Event}

-- what is kept under each name, and how many names there are, once a value is kept under this one
abbrev pub value_with : {V : Type 0} → Text → V → (Text → Option V) → Text → Option V
value_with name value kept other = if is_same name other then Some value else kept other

abbrev pub count_with : {V : Type 0} → Text → (Text → Option V) → ℕ → ℕ
count_with name kept count = count + (if is_some (kept name) then 0 else 1)

-- so it is where a value may be kept
abbrev pub value_with_some : {V : Type 0} → Option V → Option Text → (Text → Option V) → Text → Option V
value_with_some None name kept = kept
value_with_some (Some value) None kept = kept
value_with_some (Some value) (Some name) kept = value_with name value kept

abbrev pub count_with_some : {V : Type 0} → Option V → Option Text → (Text → Option V) → ℕ → ℕ
count_with_some None name kept count = count
count_with_some (Some value) None kept count = count
count_with_some (Some value) (Some name) kept count = count_with name kept count

-- the table with a value under this name, where there is one
abbrev pub entries_with : {V : Type 0} → Option V → Option Text → List (Text × V) → List (Text × V)
entries_with None name entries = entries
entries_with (Some value) None entries = entries
entries_with (Some value) (Some name) entries = insert_entry is_same entries name value

-- the messages after an event of this kind and number, whose task this event started
abbrev pub messages_after : Kind → Option Text → ℕ → ℕ → Book ℕ → Messages ℕ
messages_after Send (Some name) start event book = after_send name event book
messages_after Recv (Some name) start event book = after_receive nat_eq name start event book
messages_after kind name start event book = book.messages

-- the book with the event
abbrev pub with_event : Event → Contents → Contents
with_event event book = record book {
  rows = book.rows ++ event.row ∷ [];
  trees = book.trees ++ event.tree ∷ [];
  homes = book.homes ++ event.home ∷ [];
  points = book.points ++ event.point ∷ [];
  starts = book.starts ++ event.acting.start ∷ [];
  places = book.places ++ event.acting.id ∷ [];
  ids = book.ids ++ event.ids;
  kept_ids = book.kept_ids + length event.ids;
  tasks = insert_entry is_same (entries_with event.named event.row.name book.tasks) event.row.task event.acting;
  messages = messages_after event.row.kind event.row.name event.acting.start (suc (length book.rows)) (messages_in book);
}

-- its tasks, and how many they are
abbrev pub tasks_with : Event → Contents → Text → Option Task
tasks_with event book = value_with event.row.task event.acting (value_with_some event.named event.row.name (task_in book))

abbrev pub task_count_with : Event → Contents → ℕ
task_count_with event book =
    count_with event.row.task (value_with_some event.named event.row.name (task_in book)) (count_with_some event.named event.row.name (task_in book) (length book.tasks))

-- the id of its task after an event: the first that the event makes, else the one that is kept at this place
abbrev pub id_left : List Id → List Id → ℕ → Option Id
id_left kept [] place = slice_get kept place
id_left kept (id ∷ made) place = Some id

-- The event can be added to the book, which has room for it; and it can be dropped.
pub record IsReady (book : Contents) (event : Event) : Type 0 where
  pub kept : IsKept book
  pub next : IsKept (with_event event book)
  pub room : HasRoom book
  pub id : id_left book.ids event.ids event.acting.id ≡ Some (id_of tree_clock (event.row ∷ history_in book) event.row.task)
