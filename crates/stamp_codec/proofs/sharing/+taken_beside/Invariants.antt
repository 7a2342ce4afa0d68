use Rattle.std.proofs.Common.{◌+◌, ◌*◌}
use Rattle.stamp_codec.proofs.sharing.+taken_beside.Given as goal

abbrev pub decreases-take_node_beside : goal.decreases-take_node_beside
decreases-take_node_beside l = 2 * l.levels

abbrev pub decreases-take_beside : goal.decreases-take_beside
decreases-take_beside l = 2 * l.levels + 1
