-- No stamp is nested deeper than it has inner nodes.
use Rattle.std.proofs.Common.{ℕ, ◌≤◌, IsTrue, List, arith}
use Rattle.trace_types.specs.clock.Id.{Id, Zero, One, Pair}
use Rattle.trace_types.specs.clock.EventTree.{EventTree, Leaf, Node}
use Rattle.trace_types.specs.clock.Clock.{tree_clock}
use Rattle.trace_types.specs.clock.Size.{inner_of_id, inner_of_tree}
use Rattle.trace_types.specs.clock.Stamps.{stamp_of}
use Rattle.trace_types.specs.tenant.Limits.{Limits, are_limits}
use Rattle.trace_types.specs.tenant.Rows.{history_of}
use Rattle.trace_types.specs.tenant.Tenant.{AreLegal}
use Rattle.trace_types.specs.declared.row.Row.{Row}
use Rattle.event_tree.specs.Height.{height}
use Rattle.stamp_codec.specs.Bounds.{id_height}
use Rattle.tenant_ledger.specs.Size.{NestsAtMost, spawns_up_to}
use Rattle.tenant_ledger.proofs.size.Counts.{within_spawns}
use Rattle.tenant_ledger.proofs.size.Limits.{are_limits-le, are_within_limits, spawns_up_to-le}

pub id_height-le : (id : Id) → id_height id ≤ inner_of_id id
id_height-le Zero = omega arith
id_height-le One = omega arith
id_height-le (Pair left right) = omega (arith, id_height-le left, id_height-le right)

pub height-le : (tree : EventTree) → height tree ≤ inner_of_tree tree
height-le (Leaf n) = omega arith
height-le (Node n left right) = omega (arith, height-le left, height-le right)

pub nesting_within_spawns : (rows : List Row) (event : ℕ) → NestsAtMost (spawns_up_to rows event) (stamp_of tree_clock (history_of rows) event)
nesting_within_spawns rows event =
    let stamp = stamp_of tree_clock (history_of rows) event in
    let sized = within_spawns rows event in
    record { id = omega (arith, id_height-le stamp.0, sized.id); tree = omega (arith, height-le stamp.1, sized.tree) }

module _ (limits : Limits) (rows : List Row) (are : IsTrue (are_limits limits.events limits.tasks limits.messages)) (legal : AreLegal limits rows) (event : ℕ) where
  pub nesting-le : NestsAtMost 2047 (stamp_of tree_clock (history_of rows) event)
  nesting-le =
      let nests = nesting_within_spawns rows event in
      let ranges = are_limits-le limits.events limits.tasks limits.messages are in
      let few = are_within_limits limits rows are legal in
      let most : spawns_up_to rows event ≤ 2047 = omega (arith, spawns_up_to-le rows event, few.tasks, ranges.2) in
      record { id = omega (arith, nests.id, most); tree = omega (arith, nests.tree, most) }
