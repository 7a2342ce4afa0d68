use Rattle.std.proofs.Common.{refl, arith}
use Rattle.std.proofs.lemmas.Bool.{false≢true}
use Rattle.event_tree.specs.PathCode.{point_of}
use Rattle.event_tree.proofs.Bounds.{minimum-le-value, value-le-maximum, minimum-le-maximum}
use Rattle.event_tree.proofs.Paths.{steps_down}
use Rattle.event_tree.proofs.ev_tree.EvTree.is_above_at.Goals as goal

pub overflow_add-one_lift : goal.overflow_add-one_lift
overflow_add-one_lift c = omega (arith, c.loop-two_lift.invariant.one_fits, c.min.ensures, minimum-le-maximum c.loop-two_lift.one.now)

pub overflow_add-two_lift-in-loop-two_lift : goal.overflow_add-two_lift-in-loop-two_lift
overflow_add-two_lift-in-loop-two_lift c = omega (arith, c.loop-two_lift.invariant.two_fits, c.min-in-loop-two_lift.ensures, minimum-le-maximum c.loop-two_lift.two.now)

pub returns-then-two_lift-max : goal.returns-then-two_lift-max
returns-then-two_lift-max c =
    let low = minimum-le-value c.loop-two_lift.one.now (point_of c.loop-two_lift.rights.now) in
    let high = value-le-maximum c.loop-two_lift.two.now (point_of c.loop-two_lift.rights.now) in
    (λ is. omega (arith, low, high, c.max.ensures, c.min.ensures, c.if-two_lift-max.true, c.loop-two_lift.invariant.one_is, c.loop-two_lift.invariant.two_is), λ above. refl)

pub returns-then-one_lift-max : goal.returns-then-one_lift-max
returns-then-one_lift-max c =
    let high = value-le-maximum c.loop-two_lift.one.now (point_of c.loop-two_lift.rights.now) in
    let low = minimum-le-value c.loop-two_lift.two.now (point_of c.loop-two_lift.rights.now) in (
      λ never. absurd (false≢true never),
      λ above. absurd (omega (arith, low, high, above, c.max-in-loop-two_lift.ensures, c.min-in-loop-two_lift.ensures, c.if-one_lift-max.true, c.loop-two_lift.invariant.one_is, c.loop-two_lift.invariant.two_is)),
    )

pub loop-two_lift-preserved : goal.loop-two_lift-preserved
loop-two_lift-preserved c = record {
  one_is = steps_down c.loop-two_lift.one_lift c.part-one_above.result.1 c.loop-two_lift.one.now c.part-one_above.result.0.now c.parted-right.result.0 (point_of c.loop-two_lift.rights.now) (point_of c.parted-right.result.1.now) _
      c.parted-right.ensures.half c.parted-right.ensures.below c.part-one_above.ensures.value c.loop-two_lift.invariant.one_is;
  two_is = steps_down c.loop-two_lift.two_lift c.part-two_above.result.1 c.loop-two_lift.two.now c.part-two_above.result.0.now c.parted-right.result.0 (point_of c.loop-two_lift.rights.now) (point_of c.parted-right.result.1.now) _
      c.parted-right.ensures.half c.parted-right.ensures.below c.part-two_above.ensures.value c.loop-two_lift.invariant.two_is;
  one_fits = c.part-one_above.ensures.fits;
  two_fits = c.part-two_above.ensures.fits;
}
