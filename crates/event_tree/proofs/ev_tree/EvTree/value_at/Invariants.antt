use Rattle.std.proofs.Common.{◌≡◌, ◌+◌, ◌^◌, ◌<◌}
use Rattle.trace_types.specs.clock.EventTree.{value, maximum}
use Rattle.event_tree.specs.PointCode.{halves_of}
use Rattle.event_tree.proofs.ev_tree.EvTree.value_at.Given as goal

abbrev pub invariant-loop-tree : goal.invariant-loop-tree
invariant-loop-tree l = record {
  adds_up : l.sum + value l.tree (halves_of 128 l.halves) ≡ value l.self l.point;
  fits : l.sum + maximum l.tree < 2 ^ 64;
}
