-- How an id is packed.
use Rattle.std.specs.Prelude.{List, [], ◌∷◌, ◌++◌}
use Rattle.trace_types.specs.clock.Id as plain
use Rattle.trace_types.specs.clock.IdOperations.{norm_id}
use Rattle.tenant_ledger.specs.declared.packed_id.Form.{Form}
use Rattle.tenant_ledger.specs.declared.packed_id.Form.TheVariants as form
use Rattle.tenant_ledger.specs.declared.packed_id.PackedNode.{PackedNode}
use Rattle.tenant_ledger.specs.declared.packed_id.PackedNode.TheVariants.{Zero, One, Left, Right, Pair}

-- the nodes of a pair, whose halves have these
abbrev pub packed_pair : plain.Id → plain.Id → List PackedNode → List PackedNode → List PackedNode
packed_pair left plain.Zero kept given = kept ++ Left ∷ []
packed_pair plain.Zero right kept given = given ++ Right ∷ []
packed_pair left right kept given = kept ++ (given ++ Pair ∷ [])

-- the nodes of an id, each pair behind its halves: a half that is nothing beside one that is not has none
abbrev pub packed : plain.Id → List PackedNode
packed plain.Zero = Zero ∷ []
packed plain.One = One ∷ []
packed (plain.Pair left right) = packed_pair left right (packed left) (packed right)

-- the first of these, or nothing
abbrev pub first_id : List plain.Id → plain.Id
first_id [] = plain.Zero
first_id (id ∷ ids) = id

-- these without the first
abbrev pub other_ids : List plain.Id → List plain.Id
other_ids [] = []
other_ids (id ∷ ids) = ids

-- the ids before a node, the last one first, and those behind it: a pair is made of the last ones
abbrev pub with_node : PackedNode → List plain.Id → List plain.Id
with_node Zero ids = plain.Zero ∷ ids
with_node One ids = plain.One ∷ ids
with_node Left ids = norm_id (first_id ids) plain.Zero ∷ other_ids ids
with_node Right ids = norm_id plain.Zero (first_id ids) ∷ other_ids ids
with_node Pair ids = norm_id (first_id (other_ids ids)) (first_id ids) ∷ other_ids (other_ids ids)

-- so it is for each of these nodes
abbrev pub with_nodes : List plain.Id → List PackedNode → List plain.Id
with_nodes ids [] = ids
with_nodes ids (node ∷ nodes) = with_nodes (with_node node ids) nodes

-- the id of which these are the nodes
abbrev pub id_of_nodes : List PackedNode → plain.Id
id_of_nodes nodes = first_id (with_nodes [] nodes)

-- the id that is kept so
abbrev pub id_of_form : Form → plain.Id
id_of_form (form.Tree id) = id
id_of_form (form.Packed nodes) = id_of_nodes nodes.items
id_of_form (form.Retired shown) = shown.value
