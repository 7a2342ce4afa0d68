use Rattle.std.proofs.Common.{◌≡◌, ◌+◌, ◌^◌, ◌<◌}
use Rattle.trace_types.specs.clock.EventTree.{value, maximum}
use Rattle.event_tree.specs.Height.{height}
use Rattle.event_tree.specs.PathCode.{point_of}
use Rattle.event_tree.proofs.ev_tree.EvTree.is_above_at.Given as goal

abbrev pub invariant-loop-two_lift : goal.invariant-loop-two_lift
invariant-loop-two_lift l = record {
  one_is : l.one_lift + value l.one (point_of l.rights) ≡ value l.self l.path;
  two_is : l.two_lift + value l.two (point_of l.rights) ≡ value l.other l.path;
  one_fits : l.one_lift + maximum l.one < 2 ^ 64;
  two_fits : l.two_lift + maximum l.two < 2 ^ 64;
}

abbrev pub decreases-loop-two_lift : goal.decreases-loop-two_lift
decreases-loop-two_lift l = height l.one + height l.two
