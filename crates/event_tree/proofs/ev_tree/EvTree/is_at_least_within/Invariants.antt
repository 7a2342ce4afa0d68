use Rattle.std.proofs.Common.{◌≡◌, ◌+◌, ◌^◌, ◌<◌}
use Rattle.trace_types.specs.clock.EventTree.{value, maximum}
use Rattle.event_tree.specs.PointCode.{halves_of}
use Rattle.event_tree.proofs.ev_tree.EvTree.is_at_least_within.Given as goal

abbrev pub invariant-loop-lift : goal.invariant-loop-lift
invariant-loop-lift l = record {
  adds_up : l.lift + value l.tree (halves_of 128 l.rest) ≡ value l.self l.point;
  fits : l.lift + maximum l.tree < 2 ^ 64;
}
