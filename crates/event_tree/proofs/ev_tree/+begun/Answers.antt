use Rattle.std.proofs.Common.{◌≡◌, ap, arith}
use Rattle.trace_types.specs.clock.Id.{One}
use Rattle.trace_types.specs.clock.EventTree.{maximum}
use Rattle.trace_types.specs.clock.Grow.{cost}
use Rattle.event_tree.specs.Filled.{filled_over}
use Rattle.event_tree.proofs.Bounds.{minimum-le-maximum}
use Rattle.event_tree.proofs.Filled.{maximum-fill-le, normal_fill}
use Rattle.event_tree.proofs.ev_tree.+begun.Goals as goal

pub Children::begun_under-begun_over-requires-clause-fits : goal.Children::begun_under-begun_over-requires-clause-fits
Children::begun_under-begun_over-requires-clause-fits t c =
    let left = ap maximum c.flattened-left.ensures.gives.exact in
    let right = ap maximum c.in_ok-begun.ensures.gives.exact in
    omega (arith, c.requires.fits, left, right, c.min.ensures, maximum-fill-le c.args.id.1.now c.args.self.now.right c.requires.normal.1, minimum-le-maximum (filled_over c.begun.new.found c.args.self.now.right))

pub Children::begun_under-begun_over-requires-clause-normals : goal.Children::begun_under-begun_over-requires-clause-normals
Children::begun_under-begun_over-requires-clause-normals t c = (
  rw c.flattened-left.ensures.gives.exact tt,
  rw c.in_ok-begun.ensures.gives.exact (normal_fill c.args.id.1.now c.args.self.now.right c.requires.normal.1),
)

pub Children::begun_under-begun_over-requires-then-is_one-2-clause-fits : goal.Children::begun_under-begun_over-requires-then-is_one-2-clause-fits
Children::begun_under-begun_over-requires-then-is_one-2-clause-fits t c =
    let left = ap maximum c.in_ok-begun-2.ensures.gives.exact in
    let right = ap maximum c.flattened-right.ensures.gives.exact in
    omega (arith, c.requires.fits, left, right, c.min-then-is_one-2.ensures, maximum-fill-le c.args.id.0.now c.args.self.now.left c.requires.normal.0, minimum-le-maximum (filled_over c.begun-then-is_one-2.new.found c.args.self.now.left))

pub Children::begun_under-begun_over-requires-then-is_one-2-clause-normals : goal.Children::begun_under-begun_over-requires-then-is_one-2-clause-normals
Children::begun_under-begun_over-requires-then-is_one-2-clause-normals t c = (
  rw c.in_ok-begun-2.ensures.gives.exact (normal_fill c.args.id.0.now c.args.self.now.left c.requires.normal.0),
  rw c.flattened-right.ensures.gives.exact tt,
)

pub Children::begun_under-begun_over-requires-else-is_one-2-clause-fits : goal.Children::begun_under-begun_over-requires-else-is_one-2-clause-fits
Children::begun_under-begun_over-requires-else-is_one-2-clause-fits t c =
    let left = ap maximum c.in_ok-begun-3.ensures.gives.exact in
    let right = ap maximum c.in_ok-begun-4.ensures.gives.exact in
    omega (arith, c.requires.fits, left, right, maximum-fill-le c.args.id.0.now c.args.self.now.left c.requires.normal.0, maximum-fill-le c.args.id.1.now c.args.self.now.right c.requires.normal.1)

pub Children::begun_under-begun_over-requires-else-is_one-2-clause-normals : goal.Children::begun_under-begun_over-requires-else-is_one-2-clause-normals
Children::begun_under-begun_over-requires-else-is_one-2-clause-normals t c = (
  rw c.in_ok-begun-3.ensures.gives.exact (normal_fill c.args.id.0.now c.args.self.now.left c.requires.normal.0),
  rw c.in_ok-begun-4.ensures.gives.exact (normal_fill c.args.id.1.now c.args.self.now.right c.requires.normal.1),
)

pub Children::begun_under-returns-then-is_one-2-clause-price : goal.Children::begun_under-returns-then-is_one-2-clause-price
Children::begun_under-returns-then-is_one-2-clause-price t c =
    let whole : c.args.id.1.now ≡ One = c.is_one-else-is_one.ensures.0 c.if-is_one-2.true in
    rw whole (c.begun_over-then-is_one-2.ensures.price (cost c.args.id.0.now c.args.self.now.left) (cost One c.args.self.now.right) c.in_ok-begun-2.ensures.price c.flattened-right.ensures.price)

pub Children::begun_under-returns-clause-price : goal.Children::begun_under-returns-clause-price
Children::begun_under-returns-clause-price t c =
    c.begun_over-else-is_one-2.ensures.price (cost c.args.id.0.now c.args.self.now.left) (cost c.args.id.1.now c.args.self.now.right) c.in_ok-begun-3.ensures.price c.in_ok-begun-4.ensures.price
