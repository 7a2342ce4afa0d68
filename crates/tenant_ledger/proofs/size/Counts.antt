-- The stamp of an event is within the spawns among the rows up to its own.
use Rattle.std.proofs.Common.{◌≡◌, ℕ, suc, ◌<◌, ◌≤◌, List, [], ◌∷◌, length, reverse, take, refl, ap, sym, subst, ◌∙◌, inl, inr, eqb, arith}
use Rattle.std.proofs.lemmas.Bool.{cases_eq, cases_lt, cond-true, cond-false, eq-eqb, ne_eqb}
use Rattle.std.proofs.lemmas.List.{length-reverse, reverse-append, reverse-reverse, take-append-le}
use Rattle.std.proofs.Math.Seq.{take-length}
use Rattle.trace_types.specs.text.Name.{Text}
use Rattle.trace_types.specs.clock.Id.{Zero}
use Rattle.trace_types.specs.clock.EventTree.{Leaf}
use Rattle.trace_types.specs.clock.Clock.{tree_clock}
use Rattle.trace_types.specs.clock.Size.{inner_of_id, inner_of_tree}
use Rattle.trace_types.specs.clock.Stamps.{id_of, tree_of, stamp_of}
use Rattle.trace_types.specs.tenant.Rows.{History, history_of, spawn_count}
use Rattle.trace_types.specs.declared.row.Row.{Row}
use Rattle.id_tree.proofs.Places.{inner_of_id-le}
use Rattle.event_tree.proofs.Places.{inner_of_tree-le}
use Rattle.tenant_ledger.specs.Size.{AreSized, HasInnerAtMost, spawns_up_to}
use Rattle.tenant_ledger.proofs.size.Stamps.{places_of, place_count-le_spawns, among-id_of, among-tree_of}

-- the rows of a history up to an event
abbrev rows_up_to : ℕ → History → History
rows_up_to event history = reverse (take event (reverse history))

-- the rows of the newest event are all
rows_up_to-new : (history : History) → rows_up_to (length history) history ≡ history
rows_up_to-new history =
    ap reverse (subst (λ count. take count (reverse history) ≡ reverse history) (length-reverse history) (take-length (reverse history)))
    ∙ reverse-reverse history

-- those of an older one are the same without the newest row
rows_up_to-older : (row : Row) (earlier : History) (event : ℕ) → event ≤ length earlier → rows_up_to event (row ∷ earlier) ≡ rows_up_to event earlier
rows_up_to-older row earlier event older =
    ap (λ rows. reverse (take event rows)) (reverse-append (row ∷ []) earlier)
    ∙ ap reverse (take-append-le event (reverse earlier) (row ∷ []) (omega (arith, length-reverse earlier)))

-- what is no event has the stamp of nobody
pub stamp_of-later : (history : History) (event : ℕ) → length history < event → stamp_of tree_clock history event ≡ (Zero, Leaf 0)
stamp_of-later [] event later = refl
stamp_of-later (row ∷ earlier) event later =
    cond-false (eqb event (suc (length earlier))) _ _ (ne_eqb event (suc (length earlier)) (λ is. omega (arith, is)))
    ∙ stamp_of-later earlier event (omega arith)

nobody_is_within : (most : ℕ) → HasInnerAtMost most (Zero, Leaf 0)
nobody_is_within most = record { id = omega arith; tree = omega arith }

-- the stamp that a new row makes is within all spawns
new_is_within : (row : Row) (earlier : History) → let history = row ∷ earlier in
    HasInnerAtMost (spawn_count history) (id_of tree_clock history row.task, tree_of tree_clock history (length history))
new_is_within row earlier =
    let history = row ∷ earlier in
    let few = place_count-le_spawns history in
    record {
      id = omega (arith, few, inner_of_id-le (id_of tree_clock history row.task) (places_of history) (among-id_of history row.task));
      tree = omega (arith, few, inner_of_tree-le (tree_of tree_clock history (length history)) (places_of history) (among-tree_of history (length history)));
    }

stamp_is_within : (history : History) (event : ℕ) → HasInnerAtMost (spawn_count (rows_up_to event history)) (stamp_of tree_clock history event)
stamp_is_within [] event = nobody_is_within (spawn_count (rows_up_to event []))
stamp_is_within (row ∷ earlier) event =
    let history = row ∷ earlier in
    elim (cases_lt (length earlier) event) [
      | inl later ↦ elim (cases_eq event (length history)) [
        | inl new ↦ subst (λ number. HasInnerAtMost (spawn_count (rows_up_to number history)) (stamp_of tree_clock history number)) (sym new)
            (subst (λ rows. HasInnerAtMost (spawn_count rows) (stamp_of tree_clock history (length history))) (sym (rows_up_to-new history))
            (subst (HasInnerAtMost (spawn_count history)) (sym (cond-true (eqb (length history) (suc (length earlier))) _ _ (eq-eqb (length history) (suc (length earlier)) refl))) (new_is_within row earlier)))
        | inr differ ↦ subst (HasInnerAtMost (spawn_count (rows_up_to event history))) (sym (stamp_of-later history event (omega arith))) (nobody_is_within (spawn_count (rows_up_to event history)))
      ]
      | inr older ↦
          subst (λ rows. HasInnerAtMost (spawn_count rows) (stamp_of tree_clock history event)) (sym (rows_up_to-older row earlier event older))
          (subst (HasInnerAtMost (spawn_count (rows_up_to event earlier))) (sym (cond-false (eqb event (suc (length earlier))) _ _ (ne_eqb event (suc (length earlier)) (λ is. omega (arith, is))))) (stamp_is_within earlier event))
    ]

pub within_spawns : (rows : List Row) (event : ℕ) → HasInnerAtMost (spawns_up_to rows event) (stamp_of tree_clock (history_of rows) event)
within_spawns rows event =
    subst (λ found. HasInnerAtMost (spawn_count (history_of (take event found))) (stamp_of tree_clock (history_of rows) event)) (reverse-reverse rows)
    (stamp_is_within (history_of rows) event)

-- the id of a task is within all spawns
pub id_is_within : (history : History) (task : Text) → inner_of_id (id_of tree_clock history task) ≤ spawn_count history
id_is_within history task =
    omega (arith, place_count-le_spawns history, inner_of_id-le (id_of tree_clock history task) (places_of history) (among-id_of history task))

-- and so is what an event knows
pub tree_is_within : (history : History) (event : ℕ) → inner_of_tree (tree_of tree_clock history event) ≤ spawn_count history
tree_is_within history event =
    omega (arith, place_count-le_spawns history, inner_of_tree-le (tree_of tree_clock history event) (places_of history) (among-tree_of history event))

pub are_sized : (rows : List Row) → AreSized rows
are_sized rows = record { ids = id_is_within (history_of rows); stamps = within_spawns rows }
