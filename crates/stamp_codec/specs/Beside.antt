-- What is read beside a tree.
use Rattle.trace_types.specs.clock.EventTree.{EventTree}
use Rattle.stamp_codec.specs.declared.sharing.Beside.{Beside}
use Rattle.stamp_codec.specs.declared.sharing.Beside.TheVariants.{Same, Other}

-- the tree that was read: the first one, or that in the place that was lent for it
abbrev pub tree_beside : Beside → EventTree → EventTree → EventTree
tree_beside Same tree made = tree
tree_beside Other tree made = made
