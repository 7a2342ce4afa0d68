use Rattle.std.proofs.Common.{◌+◌, ◌*◌}
use Rattle.stamp_codec.proofs.one_pass.+taken_trees.Given as goal

abbrev pub decreases-take_node : goal.decreases-take_node
decreases-take_node l = 2 * l.levels

abbrev pub decreases-take_tree : goal.decreases-take_tree
decreases-take_tree l = 2 * l.levels + 1
