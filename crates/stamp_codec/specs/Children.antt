-- What of the children of a node tells whether it is normal.
use Rattle.std.specs.Prelude.{◌≡◌, ◌≢◌, ◌↔◌, ◌⊎◌, min, IsTrue}
use Rattle.trace_types.specs.clock.EventTree.{EventTree, minimum, AreUnequal}
use Rattle.event_tree.specs.Leaves.{IsLeafTree}
use Rattle.stamp_codec.specs.declared.child.Child.{Child}

-- this is known of the tree
pub record IsChild (child : Child) (tree : EventTree) : Type 0 where
  pub least : child.least ≡ minimum tree
  pub number : IsTrue child.is_number ↔ IsLeafTree tree

-- a node over these two is not normal
abbrev pub IsUnevenOver : EventTree → EventTree → Type 0
IsUnevenOver left right = (min (minimum left) (minimum right) ≢ 0) ⊎ (¬ AreUnequal left right)
