-- The digest of an event tree: a number that is the same for equal trees, and differs for most that differ.
use Rattle.std.specs.Prelude.{ℕ, ◌+◌, ◌%◌, ◌^◌}
use Rattle.trace_types.specs.clock.EventTree.{EventTree, Leaf, Node}
use Rattle.trace_types.specs.clock.Digest.{digest_of_both}

-- A number at the root is added to what stands below it, so that raising a whole tree is one step for its digest too.
abbrev pub tree_digest : EventTree → ℕ
tree_digest (Leaf n) = n
tree_digest (Node n left right) = (n + digest_of_both (tree_digest left) (tree_digest right)) % 2 ^ 64
