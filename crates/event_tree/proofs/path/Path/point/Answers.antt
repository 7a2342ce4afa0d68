use Rattle.std.proofs.Common.{◌≡◌, suc, ◌+◌, ◌*◌, ◌^◌, ◌≤◌, ap, ◌∙◌, arith}
use Rattle.std.proofs.Math.Nat.{pow-suc}
use Rattle.event_tree.proofs.PathPoints.{fits, leads_left, leads_right}
use Rattle.event_tree.proofs.Points.{value-zero}
use Rattle.event_tree.proofs.path.Path.point.Goals as goal
use Rattle.event_tree.proofs.path.Path.point.Goals.{then-right, else-right}

pub loop-right-init : goal.loop-right-init
loop-right-init c = record { small = omega arith; same = value-zero 128 }

pub overflow_mul-halves : goal.overflow_mul-halves
overflow_mul-halves c =
    let low : c.loop-right.right-index ≤ 127 = omega (arith, c.loop-right-test.true, c.len.ensures, c.if-len-gt-LEVELS.false, c.deref-right-items.ensures.len) in
    let small = fits c.deref-right-items.result.now c.loop-right.right-index c.loop-right-test.true low c.loop-right.halves c.loop-right.invariant.small c.loop-right.invariant.same in
    omega (arith, small)

pub overflow_add-halves : goal.overflow_add-halves
overflow_add-halves c =
    let low : c.loop-right.right-index ≤ 127 = omega (arith, c.loop-right-test.true, c.len.ensures, c.if-len-gt-LEVELS.false, c.deref-right-items.ensures.len) in
    let small = fits c.deref-right-items.result.now c.loop-right.right-index c.loop-right-test.true low c.loop-right.halves c.loop-right.invariant.small c.loop-right.invariant.same in
    omega (arith, small)

pub loop-right-preserved : goal.loop-right-preserved
loop-right-preserved c =
    let rights = c.deref-right-items.result.now in
    let level = c.loop-right.right-index in
    let low : level ≤ 127 = omega (arith, c.loop-right-test.true, c.len.ensures, c.if-len-gt-LEVELS.false, c.deref-right-items.ensures.len) in
    let more : level + 1 ≡ suc level = omega arith in
    let next : 2 ^ (level + 1) ≡ 2 ^ level * 2 = ap (λ n. 2 ^ n) more ∙ pow-suc 2 level in
    elim c.if-right.branch [
      | then-right w ↦ record {
        small = omega (arith, next, w.halves-is, c.loop-right.invariant.small);
        same = λ tree. rw w.halves-is (leads_right rights level c.loop-right-test.true low c.loop-right.halves c.loop-right.invariant.small c.loop-right.invariant.same w.if-right.true tree);
      }
      | else-right w ↦ record {
        small = omega (arith, next, w.halves-is, c.loop-right.invariant.small);
        same = λ tree. rw w.halves-is (leads_left rights level c.loop-right-test.true low c.loop-right.halves c.loop-right.invariant.small c.loop-right.invariant.same w.if-right.false tree);
      }
    ]
