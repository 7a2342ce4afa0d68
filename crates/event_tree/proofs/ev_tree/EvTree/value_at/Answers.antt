use Rattle.std.proofs.Common.{◌≡◌, ◌%◌, ◌^◌, ◌<◌, arith}
use Rattle.event_tree.proofs.Points.{steps_left, steps_right}
use Rattle.event_tree.proofs.ev_tree.EvTree.value_at.Goals.{then-halves-eq0, else-halves-eq0}
use Rattle.event_tree.proofs.ev_tree.EvTree.value_at.Goals as goal

pub loop-tree-preserved : goal.loop-tree-preserved
loop-tree-preserved c =
    let adds_up = rw (← c.tree.view_is, c.in-Fork.is) at c.loop-tree.invariant.adds_up in
    let fits = rw (← c.tree.view_is, c.in-Fork.is) at c.loop-tree.invariant.fits in
    let small : c.loop-tree.halves < 2 ^ 128 = omega (arith, c.loop-tree.auto.halves-fits) in
    elim c.if-halves-eq0.branch [
      | then-halves-eq0 w ↦
          rw (w.tree-is, w.deref.ensures)
          (record { adds_up = steps_left _ _ _ c.in-Fork.children.value.left c.in-Fork.children.value.right _ small adds_up w.if-halves-eq0.true; fits = omega (arith, fits) })
      | else-halves-eq0 w ↦
          let bit : c.loop-tree.halves % 2 ≡ 1 = omega (arith, w.if-halves-eq0.false) in
          rw (w.tree-is, w.deref-else-halves-eq0.ensures)
          (record { adds_up = steps_right _ _ _ c.in-Fork.children.value.left c.in-Fork.children.value.right _ small adds_up bit; fits = omega (arith, fits) })
    ]
