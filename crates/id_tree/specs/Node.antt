-- What a node of the tree is seen as, and what holds of it.
use Rattle.std.specs.Prelude.{◌≡◌}
use Rattle.trace_types.specs.clock.Digest.{digest_of_both}
use Rattle.trace_types.specs.clock.Id as plain
use Rattle.id_tree.specs.Digest.{digest}
use Rattle.id_tree.specs.declared.id_tree.Node.{Node}
use Rattle.id_tree.specs.declared.id_tree.Node.TheVariants.{Zero, One, Pair}

-- the plain id
abbrev pub id_of_node : Node → plain.Id
id_of_node Zero = plain.Zero
id_of_node One = plain.One
id_of_node (Pair halves) = plain.Pair halves.value.left halves.value.right

-- a pair keeps its digest
abbrev pub KeepsIdDigest : Node → Type 0
KeepsIdDigest Zero = Unit {0}
KeepsIdDigest One = Unit {0}
KeepsIdDigest (Pair halves) = halves.value.digest ≡ digest_of_both (digest halves.value.left) (digest halves.value.right)

pub record IsKeptId (node : Node) : Type 0 where
  pub normal : plain.IsNormalId (id_of_node node)
  pub digest : KeepsIdDigest node
