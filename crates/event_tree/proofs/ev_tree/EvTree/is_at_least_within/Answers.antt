use Rattle.std.proofs.Common.{◌≡◌, ◌%◌, ◌^◌, ◌<◌, refl, arith}
use Rattle.event_tree.specs.PointCode.{halves_of}
use Rattle.event_tree.proofs.Bounds.{minimum-le-value, minimum-le-maximum, value-le-maximum}
use Rattle.event_tree.proofs.Points.{steps_left, steps_right}
use Rattle.event_tree.proofs.ev_tree.EvTree.is_at_least_within.Goals.{then-rest-eq0, else-rest-eq0}
use Rattle.event_tree.proofs.ev_tree.EvTree.is_at_least_within.Goals as goal

pub overflow_add-lift : goal.overflow_add-lift
overflow_add-lift c = omega (arith, c.loop-lift.invariant.fits, c.min.ensures, minimum-le-maximum c.loop-lift.tree.now)

pub returns-then-least-lift : goal.returns-then-least-lift
returns-then-least-lift c = (
  λ is. omega (arith, c.if-least-lift.true, c.min.ensures, c.loop-lift.invariant.adds_up, minimum-le-value c.loop-lift.tree.now (halves_of 128 c.loop-lift.rest)),
  λ least. refl,
)

pub returns-then-lift-max : goal.returns-then-lift-max
returns-then-lift-max c = (
  λ is. cc,
  λ least. absurd (omega (arith, least, c.if-lift-max.true, c.max.ensures, c.loop-lift.invariant.adds_up, value-le-maximum c.loop-lift.tree.now (halves_of 128 c.loop-lift.rest))),
)

pub loop-lift-preserved : goal.loop-lift-preserved
loop-lift-preserved c =
    let adds_up = rw (← c.tree.view_is, c.in-Fork.is) at c.loop-lift.invariant.adds_up in
    let fits = rw (← c.tree.view_is, c.in-Fork.is) at c.loop-lift.invariant.fits in
    let small : c.loop-lift.rest < 2 ^ 128 = omega (arith, c.loop-lift.auto.rest-fits) in
    elim c.if-rest-eq0.branch [
      | then-rest-eq0 w ↦
          rw (w.tree-is, w.deref.ensures)
          (record { adds_up = steps_left _ _ _ c.in-Fork.children.value.left c.in-Fork.children.value.right _ small adds_up w.if-rest-eq0.true; fits = omega (arith, fits) })
      | else-rest-eq0 w ↦
          let bit : c.loop-lift.rest % 2 ≡ 1 = omega (arith, w.if-rest-eq0.false) in
          rw (w.tree-is, w.deref-else-rest-eq0.ensures)
          (record { adds_up = steps_right _ _ _ c.in-Fork.children.value.left c.in-Fork.children.value.right _ small adds_up bit; fits = omega (arith, fits) })
    ]
