-- How long the text of an event's stamp is, for legal rows.
use Rattle.std.proofs.Common.{ℕ, ◌+◌, ◌*◌, ◌≤◌, IsTrue, List, length, ap, inl, inr, arith}
use Rattle.std.proofs.lemmas.Bool.{cases_lt}
use Rattle.trace_types.specs.clock.EventTree.{maximum}
use Rattle.trace_types.specs.clock.Clock.{tree_clock}
use Rattle.trace_types.specs.clock.Stamps.{stamp_of, stamp_text_of}
use Rattle.trace_types.specs.tenant.Limits.{Limits, are_limits}
use Rattle.trace_types.specs.tenant.Rows.{History, history_of}
use Rattle.trace_types.specs.tenant.Tenant.{AreLegal}
use Rattle.trace_types.specs.declared.row.Row.{Row}
use Rattle.tenant_ledger.specs.Legal.{IsLegal}
use Rattle.tenant_ledger.specs.Size.{HasShortParts, spawns_up_to}
use Rattle.tenant_ledger.proofs.clock.Consequences.{maximum_of-le}
use Rattle.tenant_ledger.proofs.clock.Legality.{IsLegal_from_AreLegal}
use Rattle.tenant_ledger.proofs.keeping.Told.{stamp_knows}
use Rattle.tenant_ledger.proofs.size.Counts.{stamp_of-later, within_spawns}
use Rattle.tenant_ledger.proofs.size.Limits.{are_limits-le, are_within_limits, spawns_up_to-le}
use Rattle.tenant_ledger.proofs.size.Texts.{length-id_text, length-stamp_text-le, length-tree_text-le}

-- no stamp has a value above the number of events
stamp_maximum-le : (history : History) → IsLegal history → (event : ℕ) → maximum (stamp_of tree_clock history event).1 ≤ length history
stamp_maximum-le history legal event = elim (cases_lt (length history) event) [
  | inl later ↦ omega (arith, ap (λ stamp. maximum stamp.1) (stamp_of-later history event later))
  | inr is ↦ omega (arith, ap maximum (stamp_knows history event), maximum_of-le history legal event)
]

module _ (limits : Limits) (rows : List Row) (are : IsTrue (are_limits limits.events limits.tasks limits.messages)) (legal : AreLegal limits rows) (event : ℕ) where
  pub stamp_text_within_spawns : length (stamp_text_of (history_of rows) event) ≤ 18 * spawns_up_to rows event + 9
  stamp_text_within_spawns =
      let stamp = stamp_of tree_clock (history_of rows) event in
      let sized = within_spawns rows event in
      let ranges = are_limits-le limits.events limits.tasks limits.messages are in
      let few = are_within_limits limits rows are legal in
      let highest = stamp_maximum-le (history_of rows) (IsLegal_from_AreLegal limits rows legal) event in
      length-stamp_text-le stamp.0 stamp.1 (spawns_up_to rows event) sized.id sized.tree (omega (arith, highest, few.events, ranges.0))

  pub parts_within_spawns : HasShortParts (spawns_up_to rows event) (stamp_of tree_clock (history_of rows) event)
  parts_within_spawns =
      let stamp = stamp_of tree_clock (history_of rows) event in
      let sized = within_spawns rows event in
      let ranges = are_limits-le limits.events limits.tasks limits.messages are in
      let few = are_within_limits limits rows are legal in
      let highest = stamp_maximum-le (history_of rows) (IsLegal_from_AreLegal limits rows legal) event in
      let tree = length-tree_text-le stamp.1 (omega (arith, highest, few.events, ranges.0)) in
      record { id = omega (arith, length-id_text stamp.0, sized.id); tree = omega (arith, tree, sized.tree) }

  pub stamp_text-le : length (stamp_text_of (history_of rows) event) ≤ 36855
  stamp_text-le =
      let ranges = are_limits-le limits.events limits.tasks limits.messages are in
      let few = are_within_limits limits rows are legal in
      omega (arith, stamp_text_within_spawns, spawns_up_to-le rows event, few.tasks, ranges.2)
