-- The bounds within which a stamp has a text.
use Rattle.std.specs.Prelude.{◌≢◌, ℕ, ◌+◌, ◌≤◌, max, List}
use Rattle.std.specs.Fmt.{decimal}
use Rattle.trace_types.specs.clock.Id.{Id, Zero, One, Pair}
use Rattle.trace_types.specs.clock.Id as ids
use Rattle.trace_types.specs.clock.EventTree.{EventTree, Leaf, Node, maximum, IsNormal}
use Rattle.event_tree.specs.Height.{height}
use Rattle.stamp_codec.specs.StampText.{Written, Number, Fork, written_tree, stamp_as_text}
use Rattle.stamp_codec.specs.Faults.{most_nested, greatest_sum}
use Rattle.stamp_codec.specs.declared.stamp.Stamp.{Stamp}

-- how deep the pairs of an id are nested
abbrev pub id_height : Id → ℕ
id_height Zero = 0
id_height One = 0
id_height (Pair left right) = max (id_height left) (id_height right) + 1

-- how many parentheses are open at once in the text of a stamp, at the most
abbrev pub nesting_of : Id → Written → ℕ
nesting_of id tree = max (id_height id) (height (written_tree tree))

-- a normal stamp that is nowhere nested too deep, and whose numbers nowhere sum too high
pub record IsBounded (stamp : Stamp) : Type 0 where
  pub id_normal : ids.IsNormalId stamp.id
  pub tree_normal : IsNormal stamp.tree
  pub id_nesting : id_height stamp.id ≤ most_nested
  pub tree_nesting : height stamp.tree ≤ most_nested
  pub sums : maximum stamp.tree ≤ greatest_sum

-- the tree as it is written
abbrev pub as_written : EventTree → Written
as_written (Leaf n) = Number (decimal n)
as_written (Node n left right) = Fork (decimal n) (as_written left) (as_written right)

-- the text is that of no normal stamp within the bounds
abbrev pub SpellsNothing : List ℕ → Type 0
SpellsNothing text = (stamp : Stamp) → IsBounded stamp → text ≢ stamp_as_text stamp
