-- How large the ids, trees and stamps of a tenant get.
use Rattle.std.specs.Prelude.{◌≡◌, ℕ, ◌+◌, ◌*◌, ◌≤◌, List, length, take}
use Rattle.trace_types.specs.text.Name.{Text}
use Rattle.trace_types.specs.clock.Id.{Id}
use Rattle.trace_types.specs.clock.EventTree.{EventTree}
use Rattle.trace_types.specs.clock.Clock.{tree_clock}
use Rattle.trace_types.specs.clock.Size.{inner_of_id, inner_of_tree}
use Rattle.trace_types.specs.clock.Stamps.{id_of, stamp_of, stamp_text_of}
use Rattle.trace_types.specs.text.StampText.{id_text, tree_text}
use Rattle.trace_types.specs.tenant.Limits.{Limits}
use Rattle.trace_types.specs.tenant.Rows.{History, history_of, spawn_count, task_count}
use Rattle.trace_types.specs.declared.reply.Reply.{Reply}
use Rattle.trace_types.specs.declared.reply.Reply.TheVariants as reply
use Rattle.trace_types.specs.declared.request.Request.{Request}
use Rattle.trace_types.specs.declared.request.Request.TheVariants.{Stamp}
use Rattle.trace_types.specs.declared.row.Row.{Row}
use Rattle.event_tree.specs.Height.{height}
use Rattle.stamp_codec.specs.Bounds.{id_height}

-- how many of the rows up to that of the event started a task
abbrev pub spawns_up_to : List Row → ℕ → ℕ
spawns_up_to rows event = spawn_count (history_of (take event rows))

-- The id and the tree of the stamp have at most so many inner nodes each.
pub record HasInnerAtMost (most : ℕ) (stamp : Id × EventTree) : Type 0 where
  pub id : inner_of_id stamp.0 ≤ most
  pub tree : inner_of_tree stamp.1 ≤ most

-- The id that each task has now has at most as many inner nodes as tasks were spawned. So have the id and the tree of
-- each event's stamp, by the spawns up to that event.
pub record AreSized (rows : List Row) : Type 0 where
  pub ids : (task : Text) → inner_of_id (id_of tree_clock (history_of rows) task) ≤ spawn_count (history_of rows)
  pub stamps : (event : ℕ) → HasInnerAtMost (spawns_up_to rows event) (stamp_of tree_clock (history_of rows) event)

-- The text of each event's stamp has at most 18 bytes for each task that was spawned up to the event, and 9 more.
abbrev pub AreShort : List Row → Type 0
AreShort rows = (event : ℕ) → length (stamp_text_of (history_of rows) event) ≤ 18 * spawns_up_to rows event + 9

-- The text of the stamp's id has at most four bytes for each of so many spawns, and one more. The text of its tree has at
-- most 14 bytes for each, and five more.
pub record HasShortParts (spawns : ℕ) (stamp : Id × EventTree) : Type 0 where
  pub id : length (id_text stamp.0) ≤ 4 * spawns + 1
  pub tree : length (tree_text stamp.1) ≤ 14 * spawns + 5

-- Each event's stamp has such texts, by the tasks that were spawned up to the event.
abbrev pub HaveShortParts : List Row → Type 0
HaveShortParts rows = (event : ℕ) → HasShortParts (spawns_up_to rows event) (stamp_of tree_clock (history_of rows) event)

-- The pairs of the stamp's id and the nodes of its tree are nested at most so deep.
pub record NestsAtMost (most : ℕ) (stamp : Id × EventTree) : Type 0 where
  pub id : id_height stamp.0 ≤ most
  pub tree : height stamp.1 ≤ most

-- Each event's stamp is nested at most as deep as tasks were spawned up to the event.
abbrev pub NestBySpawns : List Row → Type 0
NestBySpawns rows = (event : ℕ) → NestsAtMost (spawns_up_to rows event) (stamp_of tree_clock (history_of rows) event)

-- how many bytes of a stamp the answer has
abbrev pub stamp_bytes : Reply → ℕ
stamp_bytes (reply.Stamp text) = length text
stamp_bytes other = 0

-- If the request asks for a stamp, the answer has at most 18 bytes of it for each task that was spawned up to its event, and 9 more.
abbrev pub IsShort : List Row → Request → Reply → Type 0
IsShort rows request answer = (event : ℕ) → request ≡ Stamp event → stamp_bytes answer ≤ 18 * spawns_up_to rows event + 9

-- The rows are as many as the limits allow, and so are the tasks, root included.
pub record IsWithinLimits (limits : Limits) (history : History) : Type 0 where
  pub events : length history ≤ limits.events
  pub tasks : task_count history ≤ limits.tasks
