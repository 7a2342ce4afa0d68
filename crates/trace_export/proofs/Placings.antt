-- The graph that the export of a legal history lists: its trees compare as its edges say.
use Rattle.std.proofs.Common.{◌≡◌, ◌≢◌, ℕ, suc, true, List, [], ◌∷◌, length, refl, sym, ap, subst, ◌∙◌, inl, inr, eqb, arith}
use Rattle.std.specs.List.{Contains}
use Rattle.std.proofs.lemmas.Bool.{cases_eq, cond-true, cond-false, eq-eqb, ne_eqb}
use Rattle.std.proofs.lemmas.Bool.Decides.{nat_tests}
use Rattle.trace_types.specs.clock.Clock.{tree_clock}
use Rattle.trace_types.specs.clock.Stamps.{tree_of}
use Rattle.trace_types.specs.tenant.Rows.{History, is_event}
use Rattle.trace_types.specs.tenant.Reachability.{predecessors_of, LeadsBack}
use Rattle.trace_types.specs.declared.row.Row.{Row}
use Rattle.trace_types.proofs.Reachability.{predecessors_of_before, reaches_iff}
use Rattle.event_tree.specs.Comparison.{IsBelow}
use Rattle.tenant_ledger.specs.Legal.{IsLegal}
use Rattle.tenant_ledger.proofs.clock.Consequences.{below_iff_reaches}
use Rattle.tenant_ledger.proofs.clock.TreeClock.{tree_clock_laws}
use Rattle.tenant_ledger.proofs.clock.Upheld.{invariant_upheld}
use Rattle.trace_export.specs.Edges.{IsPlaced, placed_at, listed_preds, listed_tree, IsWayBack, IsConnected, ComparesAsConnected, AreOrderedAlike}
use Rattle.trace_export.specs.Following.{placed_of, placing_of}
use Rattle.trace_export.specs.declared.placed.Placed.{Placed}
use Rattle.trace_export.proofs.Connecting.{with_next, length-with_next, placed_at-earlier, placed_at-next}
use Rattle.trace_export.proofs.LegalRows.{AreSound}

pub length-placing : (history : History) → length (placing_of history) ≡ length history
length-placing [] = refl
length-placing (row ∷ earlier) = omega (arith, length-with_next (placing_of earlier) (placed_of row earlier), length-placing earlier)

-- What holds of the newest event as it is listed, and of an earlier one as it did before, holds of each.
module _ (Holds : History → ℕ → Placed → Type 0)
    (newest : (row : Row) (earlier : History) (event : ℕ) → event ≡ suc (length earlier) → Holds (row ∷ earlier) event (placed_of row earlier))
    (older : (row : Row) (earlier : History) (event : ℕ) (placed : Placed) → event ≢ suc (length earlier) → Holds earlier event placed → Holds (row ∷ earlier) event placed) where
  pub each_listed : (history : History) (event : ℕ) → IsPlaced (placing_of history) event → Holds history event (placed_at (placing_of history) event)
  each_listed [] event placed = absurd (omega (arith, placed.0, placed.1))
  each_listed (row ∷ earlier) event placed =
      let before = placing_of earlier in
      let this = placed_of row earlier in
      let len = length-placing earlier in
      elim (cases_eq event (suc (length earlier))) [
        | inl new ↦
            let at : event ≡ suc (length before) = omega (arith, new, len) in
            subst (Holds (row ∷ earlier) event) (sym (ap (placed_at (with_next before this)) at ∙ placed_at-next before this)) (newest row earlier event new)
        | inr old ↦
            let within : IsPlaced before event = (placed.0, omega (arith, placed.1, old, len, length-with_next before this)) in
            subst (Holds (row ∷ earlier) event) (sym (placed_at-earlier before this event within)) (older row earlier event (placed_at before event) old (each_listed earlier event within))
      ]

-- the listed edges are the predecessors
pub preds_are : (history : History) → AreSound history → (event : ℕ) → IsPlaced (placing_of history) event → listed_preds (placing_of history) event ≡ predecessors_of history event
preds_are history sound event placed =
    each_listed (λ (history : History) (event : ℕ) (found : Placed). AreSound history → found.preds ≡ predecessors_of history event)
    (λ row earlier event new sound. sound.0.preds ∙ sym (cond-true (eqb event (suc (length earlier))) _ _ (eq-eqb event (suc (length earlier)) new)))
    (λ row earlier event found old known sound. known sound.1 ∙ sym (cond-false (eqb event (suc (length earlier))) _ _ (ne_eqb event (suc (length earlier)) old)))
    history event placed sound

-- and the listed trees what the events know
pub trees_are : (history : History) (event : ℕ) → IsPlaced (placing_of history) event → listed_tree (placing_of history) event ≡ tree_of tree_clock history event
trees_are history event placed =
    each_listed (λ (history : History) (event : ℕ) (found : Placed). found.tree ≡ tree_of tree_clock history event)
    (λ row earlier event new. ap (tree_of tree_clock (row ∷ earlier)) (sym new))
    (λ row earlier event found old known. known ∙ sym (cond-false (eqb event (suc (length earlier))) _ _ (ne_eqb event (suc (length earlier)) old)))
    history event placed

-- an event before one that is placed is placed
before_placed : (history : History) (event pred : ℕ) → Contains (predecessors_of history event) pred → IsPlaced (placing_of history) pred
before_placed history event pred has =
    let known = predecessors_of_before history event pred has in
    (omega (arith, known.0), omega (arith, known.1, known.2, length-placing history))

module _ (history : History) (sound : AreSound history) where
  to_path : (a b : ℕ) (way : List ℕ) → IsPlaced (placing_of history) b → IsWayBack (placing_of history) b way a → LeadsBack history b way a
  to_path a b [] placed leads = leads
  to_path a b (event ∷ way) placed leads =
      let has = subst (λ preds. Contains preds event) (preds_are history sound b placed) leads.0 in
      (has, to_path a event way (before_placed history b event has) leads.1)

  from_path : (a b : ℕ) (way : List ℕ) → IsPlaced (placing_of history) b → LeadsBack history b way a → IsWayBack (placing_of history) b way a
  from_path a b [] placed leads = leads
  from_path a b (event ∷ way) placed leads =
      (subst (λ preds. Contains preds event) (sym (preds_are history sound b placed)) leads.0, from_path a event way (before_placed history b event leads.0) leads.1)

  compares : IsLegal history → (a b : ℕ) → IsPlaced (placing_of history) a → IsPlaced (placing_of history) b → ComparesAsConnected (placing_of history) a b
  compares legal a b a_placed b_placed =
      let is : is_event history a ≡ true = grind (arith, nat_tests, a_placed.0, a_placed.1, length-placing history) in
      let below = below_iff_reaches tree_clock_laws history (invariant_upheld tree_clock_laws history legal) a b is in
      let a_tree = trees_are history a a_placed in
      let b_tree = trees_are history b b_placed in (
        (λ (listed : IsBelow (listed_tree (placing_of history) a) (listed_tree (placing_of history) b)).
            let known = subst (λ tree. IsBelow (tree_of tree_clock history a) tree) b_tree (subst (λ tree. IsBelow tree (listed_tree (placing_of history) b)) a_tree listed) in
            let path = (reaches_iff history a b).0 (below.0 known) in
            (path.0, from_path a b path.0 b_placed path.1)),
        (λ (connected : IsConnected (placing_of history) a b).
            let known = below.1 ((reaches_iff history a b).1 (connected.0, to_path a b connected.0 b_placed connected.1)) in
            subst (λ tree. IsBelow tree (listed_tree (placing_of history) b)) (sym a_tree) (subst (λ tree. IsBelow (tree_of tree_clock history a) tree) (sym b_tree) known)),
      )

  -- all trees compare as the edges say
  pub ordered_alike : IsLegal history → (a b : ℕ) → IsPlaced (placing_of history) a → IsPlaced (placing_of history) b → AreOrderedAlike (placing_of history) a b
  ordered_alike legal a b a_placed b_placed = (compares legal a b a_placed b_placed, compares legal b a b_placed a_placed)
