-- What a book has.
use Rattle.std.specs.Prelude.{ℕ, List, [], ◌∷◌, Option}
use Rattle.message_book.specs.Book.{Book, Messages}
use Rattle.std.specs.Map.{lookup}
use Rattle.trace_types.specs.text.Name.{Text, is_same}
use Rattle.trace_types.specs.tenant.Limits.{Limits}
use Rattle.trace_types.specs.tenant.Rows.{History, history_of}
use Rattle.trace_types.specs.tenant.Tenant.{Tenant}
use Rattle.trace_types.specs.clock.Id.{Id, One}
use Rattle.trace_types.specs.clock.EventTree.{EventTree}
use Rattle.trace_types.specs.declared.row.Row.{Row}
use Rattle.event_tree.specs.declared.point.RaisedPoint.{RaisedPoint}
use Rattle.tenant_ledger.specs.declared.book.task.Task.{Task}
use Rattle.tenant_ledger.specs.declared.book.room.Room.{Room}

-- What a book has: the trees and the ids as what they mean. Until the first id is kept, that of `root` stands for it.
pub record Contents : Type 0 where
  -- where its share keeps trees
  pub home : List ℕ
  pub limits : Limits
  pub rows : List Row
  pub trees : List EventTree
  -- where each tree is kept
  pub homes : List (List ℕ)
  pub points : List (Option RaisedPoint)
  -- the event that started each event's task, or 0
  pub starts : List ℕ
  pub places : List ℕ
  pub ids : List Id
  pub kept_ids : ℕ
  pub tasks : List (Text × Task)
  -- each message with its receipts, by the events that started their tasks, or 0
  pub messages : Messages ℕ
  pub room : Room

-- the ids that are kept: until the first is, that of `root`, which has every point
abbrev pub with_seed : List Id → List Id
with_seed [] = One ∷ []
with_seed (first ∷ ids) = first ∷ ids

-- the rows, the newest first
abbrev pub history_in : Contents → History
history_in book = history_of book.rows

-- the tenant whose book it is
abbrev pub tenant_of : Contents → Tenant
tenant_of book = record { limits = book.limits; rows = book.rows }

-- the task that the book has under the name
abbrev pub task_in : Contents → Text → Option Task
task_in book name = lookup (is_same name) book.tasks

-- its book of messages
abbrev pub messages_in : Contents → Book ℕ
messages_in book = record { limit = book.limits.messages; messages = book.messages }
