-- Each child of a fork is lower than the fork.
use Rattle.std.specs.Prelude.{◌≤◌, max}
use Rattle.std.proofs.Common.{arith}
use Rattle.event_tree.specs.declared.ev_tree.Node.{Node}
use Rattle.event_tree.specs.declared.ev_tree.Node.TheVariants.{Leaf, Fork}
use Rattle.event_tree.specs.declared.ev_tree.EvTree.TheDeep.{deep-Node}
use Rattle.event_tree.specs.Height.{height}
use Rattle.event_tree.specs.Kept.{tree_of_node}

-- no child is deeper than the tree is high
pub depth_le-height : (node : Node) → max (deep-Node node) 0 ≤ height (tree_of_node node)
depth_le-height (Leaf n) = omega arith
depth_le-height (Fork base children) = omega arith
