-- Each legal history keeps the invariant.
use Rattle.std.proofs.lemmas.Bool.Decides.{nat_tests}
use Rattle.std.proofs.Common.{[], ◌∷◌, arith}
use Rattle.tenant_ledger.proofs.Words.{root, History, Clock, Row, ClockLaws, IsLegal, Invariant}
use Rattle.trace_types.proofs.Names.{is_same_iff}
use Rattle.tenant_ledger.proofs.clock.Events.{event_bounds}
use Rattle.tenant_ledger.proofs.clock.OneMore.{IsInOrder, keeps_invariant}
use Rattle.tenant_ledger.proofs.clock.Sharing.{allowed_is_in_order}

module _ {Id Tree : Type 0} {clock : Clock Id Tree} {Point : Type 0} {IsNormalId : Id → Type 0} {IsNormalTree : Tree → Type 0}
    (laws : ClockLaws clock Point IsNormalId IsNormalTree) where
  -- before any row
  first_invariant : Invariant laws []
  first_invariant = record {
    normal = record { trees = λ event. laws.start_normal; some = λ task live. grind (arith, nat_tests) };
    one_holder = λ task other point held other_held. grind (arith, nat_tests, laws.nobody_owns point, is_same_iff task root, is_same_iff other root);
    holder_is_ahead = λ task point held event. omega arith;
    private_points = λ event is. let bounds = event_bounds [] event is in absurd (omega (arith, bounds.0, bounds.1));
    trees_rise = λ event other reached point. omega arith;
  }

  -- a row that is allowed after legal ones is in order, and keeps the invariant
  pub legal_row_in_order : (row : Row) (earlier : History) → Invariant laws earlier → IsLegal (row ∷ earlier) → IsInOrder laws row earlier
  legal_row_in_order row earlier before legal = allowed_is_in_order laws row.task row.preds earlier before legal.1 legal.0.0 row.kind row.name legal.0.1

  pub invariant_upheld : (history : History) → IsLegal history → Invariant laws history
  invariant_upheld [] legal = first_invariant
  invariant_upheld (row ∷ earlier) legal =
      let before = invariant_upheld earlier legal.1 in keeps_invariant laws row earlier before (legal_row_in_order row earlier before legal)
