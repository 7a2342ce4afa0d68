use Rattle.std.proofs.Common.{◌≡◌, ◌^◌, ◌<◌, take}
use Rattle.trace_types.specs.clock.EventTree.{EventTree, value}
use Rattle.event_tree.specs.PathCode.{point_of}
use Rattle.event_tree.specs.PointCode.{halves_of}
use Rattle.event_tree.proofs.path.Path.point.Given as goal

abbrev pub invariant-loop-right : goal.invariant-loop-right
invariant-loop-right l = record {
  small : l.halves < 2 ^ l.right-index;
  same : (tree : EventTree) → value tree (halves_of 128 l.halves) ≡ value tree (point_of (take l.right-index l.right-items));
}
