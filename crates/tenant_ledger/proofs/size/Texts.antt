-- How long the texts of ids and trees are, by their inner nodes.
use Rattle.std.proofs.Common.{◌≡◌, ℕ, ◌+◌, ◌*◌, ◌^◌, ◌<◌, ◌≤◌, length, refl, arith}
use Rattle.std.proofs.lemmas.Fmt.{length-decimal-le}
use Rattle.std.proofs.lemmas.List.{length-append}
use Rattle.trace_types.specs.clock.Id.{Id, Zero, One, Pair}
use Rattle.trace_types.specs.clock.EventTree.{EventTree, Leaf, Node, maximum}
use Rattle.trace_types.specs.clock.Size.{inner_of_id, inner_of_tree}
use Rattle.trace_types.specs.text.StampText.{id_text, tree_text, stamp_text}

-- an inner node of an id has two parentheses, a comma and one leaf more
pub length-id_text : (id : Id) → length (id_text id) ≡ 4 * inner_of_id id + 1
length-id_text Zero = refl
length-id_text One = refl
length-id_text (Pair left right) = simp length-append (omega (arith, length-id_text left, length-id_text right))

-- one of a tree has two commas, a number and one leaf more, where numbers have five digits at most
pub length-tree_text-le : (tree : EventTree) → maximum tree < 10 ^ 5 → length (tree_text tree) ≤ 14 * inner_of_tree tree + 5
length-tree_text-le (Leaf n) small = omega (arith, length-decimal-le 5 n (omega arith) small (omega arith))
length-tree_text-le (Node n left right) small =
    simp length-append (omega (arith, length-decimal-le 5 n (omega arith) (omega arith) (omega arith), length-tree_text-le left (omega arith), length-tree_text-le right (omega arith)))

pub length-stamp_text-le : (id : Id) (tree : EventTree) (most : ℕ) → inner_of_id id ≤ most → inner_of_tree tree ≤ most → maximum tree < 10 ^ 5
    → length (stamp_text id tree) ≤ 18 * most + 9
length-stamp_text-le id tree most id_within tree_within small =
    simp length-append (omega (arith, length-id_text id, length-tree_text-le tree small))
