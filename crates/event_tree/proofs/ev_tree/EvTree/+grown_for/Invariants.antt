use Rattle.std.proofs.Common.{◌+◌}
use Rattle.id_tree.specs.IdCode.{pair_count}
use Rattle.event_tree.proofs.ev_tree.EvTree.+grown_for.Given as goal

abbrev pub decreases-grown_for : goal.decreases-grown_for
decreases-grown_for l = pair_count l.id.now + pair_count l.id.now

abbrev pub decreases-grown_below : goal.decreases-grown_below
decreases-grown_below l = pair_count l.id.0.now + pair_count l.id.1.now + (pair_count l.id.0.now + pair_count l.id.1.now) + 1
