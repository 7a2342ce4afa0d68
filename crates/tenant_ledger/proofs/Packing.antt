-- A packed id is the id.
use Rattle.std.proofs.Common.{◌≡◌, List, [], ◌∷◌, ◌++◌, refl, ◌∙◌, ap}
use Rattle.trace_types.specs.clock.Id.{Id, Zero, One, Pair, AreApart, IsNormalId}
use Rattle.trace_types.specs.clock.IdOperations.{norm_id}
use Rattle.tenant_ledger.specs.declared.packed_id.PackedNode.{PackedNode}
use Rattle.tenant_ledger.specs.declared.packed_id.PackedNode.TheVariants as node
use Rattle.tenant_ledger.specs.Packing.{first_id, id_of_nodes, packed, packed_pair, with_node, with_nodes}

pub with_nodes-append : (ids : List Id) (nodes others : List PackedNode) → with_nodes ids (nodes ++ others) ≡ with_nodes (with_nodes ids nodes) others
with_nodes-append ids [] others = refl
with_nodes-append ids (node ∷ nodes) others = with_nodes-append (with_node node ids) nodes others

-- the nodes give the id, before whatever ids
abbrev pub Give : List PackedNode → Id → Type 0
Give nodes id = (ids : List Id) → with_nodes ids nodes ≡ id ∷ ids

left_given : (left : Id) (kept : List PackedNode) → Give kept left → Give (kept ++ node.Left ∷ []) (norm_id left Zero)
left_given left kept gives ids = with_nodes-append ids kept (node.Left ∷ []) ∙ ap (λ some. with_nodes some (node.Left ∷ [])) (gives ids)

right_given : (right : Id) (given : List PackedNode) → Give given right → Give (given ++ node.Right ∷ []) (norm_id Zero right)
right_given right given gives ids = with_nodes-append ids given (node.Right ∷ []) ∙ ap (λ some. with_nodes some (node.Right ∷ [])) (gives ids)

both_given : (left right : Id) (kept given : List PackedNode) → Give kept left → Give given right
    → Give (kept ++ (given ++ node.Pair ∷ [])) (norm_id left right)
both_given left right kept given one other ids =
    with_nodes-append ids kept (given ++ node.Pair ∷ []) ∙ ap (λ some. with_nodes some (given ++ node.Pair ∷ [])) (one ids)
    ∙ with_nodes-append (left ∷ ids) given (node.Pair ∷ []) ∙ ap (λ some. with_nodes some (node.Pair ∷ [])) (other (left ∷ ids))

pair_given : (left right : Id) (kept given : List PackedNode) → AreApart left right → Give kept left → Give given right
    → Give (packed_pair left right kept given) (Pair left right)
pair_given Zero Zero kept given apart one other = absurd apart
pair_given One Zero kept given apart one other = left_given One kept one
pair_given (Pair some rest) Zero kept given apart one other = left_given (Pair some rest) kept one
pair_given Zero One kept given apart one other = right_given One given other
pair_given Zero (Pair some rest) kept given apart one other = right_given (Pair some rest) given other
pair_given One One kept given apart one other = absurd apart
pair_given One (Pair some rest) kept given apart one other = both_given One (Pair some rest) kept given one other
pair_given (Pair some rest) One kept given apart one other = both_given (Pair some rest) One kept given one other
pair_given (Pair some rest) (Pair more others) kept given apart one other = both_given (Pair some rest) (Pair more others) kept given one other

packed_given : (id : Id) → IsNormalId id → Give (packed id) id
packed_given Zero normal ids = refl
packed_given One normal ids = refl
packed_given (Pair left right) normal ids =
    pair_given left right (packed left) (packed right) normal.2 (packed_given left normal.0) (packed_given right normal.1) ids

pub packed_is : (id : Id) → IsNormalId id → id_of_nodes (packed id) ≡ id
packed_is id normal = ap first_id (packed_given id normal [])
