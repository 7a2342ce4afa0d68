-- For how much more a book has room.
use Rattle.std.specs.Prelude.{◌+◌, ◌*◌, ◌≤◌, ◌<◌}
use Rattle.trace_types.specs.tenant.Limits.{Limits}
use Rattle.tenant_ledger.specs.declared.book.room.Room.{Room}
use Rattle.tenant_ledger.specs.Contents.{Contents}

-- there is an id, and room for an event, for a receipt, for two ids, for two tasks and for a message
pub record HasRoom (book : Contents) : Type 0 where
  pub events : 0 < book.room.events
  pub receipts : 0 < book.room.receipts
  pub ids : 2 ≤ book.room.ids
  pub tasks : 2 ≤ book.room.tasks
  pub messages : 0 < book.room.messages
  pub seeded : 0 < book.kept_ids

-- there is room for so many more of each
pub record HasRoomFor (more : Room) (room : Room) : Type 0 where
  pub events : more.events ≤ room.events
  pub receipts : more.receipts ≤ room.receipts
  pub ids : more.ids ≤ room.ids
  pub tasks : more.tasks ≤ room.tasks
  pub messages : more.messages ≤ room.messages

-- There is room for as many events, receipts, ids, tasks and messages as a tenant with these limits makes. There is also room for
-- what is asked before its last event.
pub record HasAllRoom (limits : Limits) (room : Room) : Type 0 where
  pub events : limits.events ≤ room.events
  pub receipts : limits.events ≤ room.receipts
  pub ids : 3 * limits.tasks ≤ room.ids
  pub tasks : limits.tasks + 1 ≤ room.tasks
  pub messages : limits.messages + 1 ≤ room.messages

-- no more room is used than one event needs
pub record UsesRoomOfOne (before after : Room) : Type 0 where
  pub events : before.events ≤ after.events + 1
  pub receipts : before.receipts ≤ after.receipts + 1
  pub ids : before.ids ≤ after.ids + 2
  pub tasks : before.tasks ≤ after.tasks + 2
  pub messages : before.messages ≤ after.messages + 1

-- no room for more
abbrev pub no_room : Room
no_room = record { events = 0; receipts = 0; ids = 0; tasks = 0; messages = 0 }

-- the book, for however many more it has room
abbrev pub roomless : Contents → Contents
roomless book = record book { room = no_room }
