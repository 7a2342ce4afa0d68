use Rattle.std.proofs.Common.{◌≡◌, Bool, true, false, Option, Some, None, refl, arith, rules}
use Rattle.stamp_codec.specs.Scan.{GoesOn}
use Rattle.stamp_codec.specs.declared.scan.Scan.{Scan}
use Rattle.stamp_codec.proofs.Flats.{flat_after}
use Rattle.stamp_codec.proofs.Places.{leads_on, fault_here, shaped_at_end, fault_at_end}
use Rattle.stamp_codec.proofs.scan.shape_fault.Goals as goal

-- what a step that went on tells of the next state, and one that did not
goes_to : (goes_on : Bool) (scan : Scan) (next : Option Scan) → goes_on ≡ true → GoesOn goes_on scan next → next ≡ Some scan
goes_to true scan next is goes = goes
goes_to false scan next is goes = absurd (cc is)

goes_not : (goes_on : Bool) (scan : Scan) (next : Option Scan) → goes_on ≡ false → GoesOn goes_on scan next → next ≡ None
goes_not true scan next is goes = absurd (cc is)
goes_not false scan next is goes = goes

pub returns-then-not-branch-clause-exact : goal.returns-then-not-branch-clause-exact
returns-then-not-branch-clause-exact c = fault_here _ _ _ _ _ (omega arith) refl (goes_not _ _ _ (search (rules, c.if-not-branch)) c.in_ok-step.ensures.exact) c.loop-place.invariant.leads

pub loop-place-preserved : goal.loop-place-preserved
loop-place-preserved c =
    let next = goes_to _ _ _ (search (rules, c.if-not-branch)) c.in_ok-step.ensures.exact in
    record {
      leads = leads_on _ _ _ _ _ _ (omega arith) refl next c.loop-place.invariant.leads;
      flat = λ opens. flat_after c.loop-place.scan c.step.new.self _ (c.loop-place.invariant.flat opens) (opens c.loop-place.place) next;
    }

pub returns-then-is_complete-clause-exact : goal.returns-then-is_complete-clause-exact
returns-then-is_complete-clause-exact c = shaped_at_end _ c.loop-place.place _ _ (omega arith) (c.if-is_complete.ensures.0 refl) c.loop-place.invariant.leads

pub returns-clause-exact : goal.returns-clause-exact
returns-clause-exact c = fault_at_end _ c.loop-place.place _ _ (omega arith) (λ is. let clash : false ≡ true = c.if-is_complete.ensures.1 is in cc) c.loop-place.invariant.leads
