-- Each half of a pair has fewer pairs than the pair.
use Rattle.std.specs.Prelude.{◌≤◌, max}
use Rattle.std.proofs.Common.{arith}
use Rattle.id_tree.specs.IdCode.{pair_count}
use Rattle.id_tree.specs.Node.{id_of_node}
use Rattle.id_tree.specs.declared.id_tree.Node.{Node}
use Rattle.id_tree.specs.declared.id_tree.Node.TheVariants.{Zero, One, Pair}
use Rattle.id_tree.specs.declared.id_tree.IdTree.TheDeep.{deep-Node}

-- no half is deeper than the node has pairs
pub depth_le-pair_count : (node : Node) → max (deep-Node node) 0 ≤ pair_count (id_of_node node)
depth_le-pair_count Zero = omega arith
depth_le-pair_count One = omega arith
depth_le-pair_count (Pair halves) = omega arith
