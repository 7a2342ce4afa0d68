-- The text of a stamp.
--
--   stamp  = "[" id ";" tree "]"
--   id     = "0" | "1" | "(" id "," id ")"
--   tree   = number | "(" number "," tree "," tree ")"
use Rattle.std.specs.Prelude.{◌++◌, codes}
use Rattle.std.specs.Fmt.{decimal}
use Rattle.trace_types.specs.text.Name.{Text}
use Rattle.trace_types.specs.clock.Id.{Id, Zero, One, Pair}
use Rattle.trace_types.specs.clock.EventTree.{EventTree, Leaf, Node}

-- the text of an id
abbrev pub id_text : Id → Text
id_text Zero = codes "0"
id_text One = codes "1"
id_text (Pair left right) = codes "(" ++ (id_text left ++ (codes "," ++ (id_text right ++ codes ")")))

-- the text of an event tree
abbrev pub tree_text : EventTree → Text
tree_text (Leaf n) = decimal n
tree_text (Node n left right) = codes "(" ++ (decimal n ++ (codes "," ++ (tree_text left ++ (codes "," ++ (tree_text right ++ codes ")")))))

-- the text of a stamp
abbrev pub stamp_text : Id → EventTree → Text
stamp_text id tree = codes "[" ++ (id_text id ++ (codes ";" ++ (tree_text tree ++ codes "]")))
