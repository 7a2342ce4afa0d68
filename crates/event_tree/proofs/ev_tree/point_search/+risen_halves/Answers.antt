use Rattle.std.proofs.Common.{◌≡◌, inl, refl, arith}
use Rattle.trace_types.specs.clock.Id.{Zero}
use Rattle.event_tree.proofs.Bounds.{minimum-le-maximum}
use Rattle.event_tree.proofs.Grown.{maximum-opened}
use Rattle.event_tree.proofs.Risen.{risen_flat, risen_left, risen_right, within_left, within_right, none_risen, doubles}
use Rattle.event_tree.proofs.Walk.{below_from_ranges}
use Rattle.event_tree.proofs.ev_tree.point_search.+risen_halves.Goals.{risen_halves-then-is_zero-via-then-is_zero, risen_halves-then-is_zero-via-else-is_zero+then-after-max}
use Rattle.event_tree.proofs.ev_tree.point_search.+risen_halves.Goals as goal

pub risen_halves-overflow_add-before : goal.risen_halves-overflow_add-before
risen_halves-overflow_add-before t c = omega (arith, minimum-le-maximum c.args.before.tree.now)

pub risen_halves-returns-then-is_zero-clause-none : goal.risen_halves-returns-then-is_zero-clause-none
risen_halves-returns-then-is_zero-clause-none t c within =
    elim c.then-is_zero.branch [
      | risen_halves-then-is_zero-via-then-is_zero w ↦
          let nothing : c.args.id.now ≡ Zero = c.is_zero.ensures.0 w.if-is_zero.true in
          inl (λ point. within point (rw nothing refl))
      | risen_halves-then-is_zero-via-else-is_zero+then-after-max w ↦
          inl (below_from_ranges c.args.after.lift c.args.before.lift c.args.after.tree.now c.args.before.tree.now (omega (arith, w.if-after-max.true)))
    ]

pub risen_below-returns-then-is_leaf-2-clause-risen : goal.risen_below-returns-then-is_leaf-2-clause-risen
risen_below-returns-then-is_leaf-2-clause-risen t c =
    risen_flat c.args.before.lift c.args.after.lift c.args.before.tree.now c.args.after.tree.now c.args.levels
    (c.is_leaf.ensures.0 c.if-is_leaf.true) (c.is_leaf-then-is_leaf.ensures.0 c.if-is_leaf-2.true) c.requires.above

pub risen_below-risen_halves-requires : goal.risen_below-risen_halves-requires
risen_below-risen_halves-requires t c = (
  omega (arith, c.if-levels-eq0.false),
  (
    rw (c.halves.ensures.right.0, c.halves.ensures.right.1) (omega (arith, maximum-opened c.args.before.tree.now)),
    (
      rw (c.halves-2.ensures.right.0, c.halves-2.ensures.right.1) (omega (arith, maximum-opened c.args.after.tree.now)),
      (c.requires.zero, omega arith),
    ),
  ),
)

pub risen_below-overflow_mul-result : goal.risen_below-overflow_mul-result
risen_below-overflow_mul-result t c = omega (arith, doubles c.args.levels c.in-Some.halves c.requires.levels c.if-levels-eq0.false c.in-Some.ensures.risen.small)

pub risen_below-overflow_add-result : goal.risen_below-overflow_add-result
risen_below-overflow_add-result t c = omega (arith, doubles c.args.levels c.in-Some.halves c.requires.levels c.if-levels-eq0.false c.in-Some.ensures.risen.small)

pub risen_below-returns-in-Some-clause-risen : goal.risen_below-returns-in-Some-clause-risen
risen_below-returns-in-Some-clause-risen t c =
    risen_right c.args.before.lift c.args.after.lift c.args.before.tree.now c.args.after.tree.now c.args.levels c.if-levels-eq0.false c.in-Some.halves
    (rw (c.halves.ensures.right.0, c.halves.ensures.right.1, c.halves-2.ensures.right.0, c.halves-2.ensures.right.1) at c.in-Some.ensures.risen)

pub risen_below-risen_halves-requires-2 : goal.risen_below-risen_halves-requires-2
risen_below-risen_halves-requires-2 t c = (
  omega (arith, c.if-levels-eq0.false),
  (
    rw (c.halves.ensures.left.0, c.halves.ensures.left.1) (omega (arith, maximum-opened c.args.before.tree.now)),
    (
      rw (c.halves-2.ensures.left.0, c.halves-2.ensures.left.1) (omega (arith, maximum-opened c.args.after.tree.now)),
      (c.requires.zero, omega arith),
    ),
  ),
)

pub risen_below-returns-in_err-halves-clause-none : goal.risen_below-returns-in_err-halves-clause-none
risen_below-returns-in_err-halves-clause-none t c within =
    let low = c.args.before.lift in
    let high = c.args.after.lift in
    let before = c.args.before.tree.now in
    let after = c.args.after.tree.now in
    let right =
    rw (c.halves.ensures.right.0, c.halves.ensures.right.1, c.halves-2.ensures.right.0, c.halves-2.ensures.right.1, c.in_ok-left_id.ensures.some.1)
    at c.in_default.ensures.none in
    let left =
    rw (c.halves.ensures.left.0, c.halves.ensures.left.1, c.halves-2.ensures.left.0, c.halves-2.ensures.left.1, c.in_ok-left_id.ensures.some.0)
    at c.in_err-halves.ensures.none in
    rw c.from_residual-in_err-halves.ensures
    (none_risen low high before after c.args.levels c.if-levels-eq0.false
    (left (within_left low high before after c.args.id.now within))
    (right (within_right low high before after c.args.id.now within)))

pub risen_below-overflow_mul-result-2 : goal.risen_below-overflow_mul-result-2
risen_below-overflow_mul-result-2 t c = omega (arith, doubles c.args.levels c.in_ok-halves.halves c.requires.levels c.if-levels-eq0.false c.in_ok-halves.ensures.risen.small)

pub risen_below-returns-clause-risen : goal.risen_below-returns-clause-risen
risen_below-returns-clause-risen t c =
    risen_left c.args.before.lift c.args.after.lift c.args.before.tree.now c.args.after.tree.now c.args.levels c.if-levels-eq0.false c.in_ok-halves.halves
    (rw (c.halves.ensures.left.0, c.halves.ensures.left.1, c.halves-2.ensures.left.0, c.halves-2.ensures.left.1) at c.in_ok-halves.ensures.risen)
