-- What a node of the kept tree is seen as, and what holds of it.
use Rattle.std.specs.Prelude.{◌≡◌, ◌^◌, ◌<◌, max}
use Rattle.trace_types.specs.clock.EventTree.{EventTree, Node, maximum, IsNormal}
use Rattle.trace_types.specs.clock.EventTree as plain
use Rattle.trace_types.specs.clock.Digest.{digest_of_both}
use Rattle.event_tree.specs.Digest.{tree_digest}
use Rattle.event_tree.specs.declared.ev_tree.Node as kept
use Rattle.event_tree.specs.declared.ev_tree.Node.TheVariants.{Leaf, Fork}

-- the plain tree
abbrev pub tree_of_node : kept.Node → EventTree
tree_of_node (Leaf n) = plain.Leaf n
tree_of_node (Fork base children) = Node base children.value.left children.value.right

-- a fork keeps the greatest value of its children
abbrev pub KeepsSpread : kept.Node → Type 0
KeepsSpread (Leaf n) = Unit {0}
KeepsSpread (Fork base children) = children.value.spread ≡ max (maximum children.value.left) (maximum children.value.right)

-- and the digest of what stands below its number
abbrev pub KeepsDigest : kept.Node → Type 0
KeepsDigest (Leaf n) = Unit {0}
KeepsDigest (Fork base children) = children.value.digest ≡ digest_of_both (tree_digest children.value.left) (tree_digest children.value.right)

pub record IsKeptNode (node : kept.Node) : Type 0 where
  pub normal : IsNormal (tree_of_node node)
  pub spread : KeepsSpread node
  pub digest : KeepsDigest node
  pub fits : maximum (tree_of_node node) < 2 ^ 64
