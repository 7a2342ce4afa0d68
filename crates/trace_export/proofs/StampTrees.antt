-- The text of the stamp of a legal history's newest event: it is plain, short, and spells its tree.
use Rattle.std.proofs.Common.{◌≡◌, ℕ, suc, ◌≤◌, ◌∷◌, length, reverse, sym, ap, subst, eqb, arith, refl}
use Rattle.std.proofs.lemmas.Bool.{cond-true, eq-eqb}
use Rattle.std.proofs.lemmas.List.{reverse-reverse}
use Rattle.trace_types.specs.clock.Id.{Id}
use Rattle.trace_types.specs.clock.EventTree.{EventTree, maximum}
use Rattle.trace_types.specs.clock.Clock.{tree_clock}
use Rattle.trace_types.specs.clock.Size.{inner_of_id, inner_of_tree}
use Rattle.trace_types.specs.clock.Stamps.{id_of, tree_of, stamp_of, stamp_text_of}
use Rattle.trace_types.specs.tenant.Rows.{History, spawn_count}
use Rattle.trace_types.specs.text.Name.{Text}
use Rattle.trace_types.specs.text.StampText.{stamp_text}
use Rattle.trace_types.specs.declared.row.Row.{Row}
use Rattle.tenant_ledger.specs.Legal.{IsLegal}
use Rattle.tenant_ledger.proofs.clock.Consequences.{maximum_of-le}
use Rattle.tenant_ledger.proofs.clock.Normal.{id_of_normal}
use Rattle.tenant_ledger.proofs.clock.TreeClock.{tree_clock_laws}
use Rattle.tenant_ledger.proofs.clock.Upheld.{invariant_upheld}
use Rattle.tenant_ledger.proofs.keeping.Told.{stamp_knows}
use Rattle.tenant_ledger.proofs.size.Counts.{are_sized}
use Rattle.tenant_ledger.proofs.size.Limits.{spawns_up_to-le}
use Rattle.tenant_ledger.proofs.size.Texts.{length-stamp_text-le}
use Rattle.trace_export.proofs.GoodStamps.{IsGoodStamp, IsSmall, good_stamp}

-- the id of a task is within the spawns
id_inner-le : (history : History) (task : Text) → inner_of_id (id_of tree_clock history task) ≤ spawn_count history
id_inner-le history task =
    subst (λ found. inner_of_id (id_of tree_clock found task) ≤ spawn_count found) (reverse-reverse history) ((are_sized (reverse history)).ids task)

-- and so is what an event knows
tree_inner-le : (history : History) (event : ℕ) → inner_of_tree (tree_of tree_clock history event) ≤ spawn_count history
tree_inner-le history event =
    let rows = reverse history in
    let known : inner_of_tree (tree_of tree_clock (reverse rows) event) ≤ spawn_count (reverse rows) =
    omega (arith, ap inner_of_tree (stamp_knows (reverse rows) event), ((are_sized rows).stamps event).tree, spawns_up_to-le rows event) in
    subst (λ found. inner_of_tree (tree_of tree_clock found event) ≤ spawn_count found) (reverse-reverse history) known

module _ (row : Row) (earlier : History) (legal : IsLegal (row ∷ earlier)) (few : suc (length earlier) ≤ 16384) (spawns : spawn_count (row ∷ earlier) ≤ 2047) where
  abbrev history : History
  history = row ∷ earlier

  abbrev id : Id
  id = id_of tree_clock history row.task

  abbrev tree : EventTree
  tree = tree_of tree_clock history (suc (length earlier))

  id_inner : inner_of_id id ≤ 2047
  id_inner = omega (arith, spawns, id_inner-le history row.task)

  tree_inner : inner_of_tree tree ≤ 2047
  tree_inner = omega (arith, spawns, tree_inner-le history (suc (length earlier)))

  highest : maximum tree ≤ 16384
  highest = omega (arith, few, maximum_of-le history legal (suc (length earlier)))

  small : IsSmall id tree
  small = record {
    id_normal = id_of_normal tree_clock_laws history row.task;
    tree_normal = (invariant_upheld tree_clock_laws history legal).normal.trees (suc (length earlier));
    id_inner = id_inner;
    tree_inner = tree_inner;
    highest = highest;
    short = omega (arith, length-stamp_text-le id tree 2047 id_inner tree_inner (omega (arith, highest)));
  }

  pub text_of : stamp_text_of history (suc (length earlier)) ≡ stamp_text id tree
  text_of =
      let newest : Id × EventTree = (id, tree) in
      ap (λ (stamp : Id × EventTree). stamp_text stamp.0 stamp.1)
      (cond-true (eqb (suc (length earlier)) (suc (length earlier))) newest (stamp_of tree_clock earlier (suc (length earlier))) (eq-eqb (suc (length earlier)) (suc (length earlier)) refl))

  pub newest_stamp : IsGoodStamp (stamp_text_of history (suc (length earlier))) tree
  newest_stamp = subst (λ text. IsGoodStamp text tree) (sym text_of) (good_stamp id tree small)
