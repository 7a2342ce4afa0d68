use Rattle.std.proofs.Common.{◌+◌, ◌*◌, max}
use Rattle.event_tree.specs.Height.{height}
use Rattle.stamp_codec.proofs.spelling.+spelled_trees.Given as goal

abbrev pub decreases-spell_tree : goal.decreases-spell_tree
decreases-spell_tree g l = 2 * height l.tree.now

abbrev pub decreases-spell_node : goal.decreases-spell_node
decreases-spell_node g l = 2 * max (height l.left.now) (height l.right.now) + 1
