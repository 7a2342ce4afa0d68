-- What is shown by the parts of an id that are lent.
use Rattle.trace_types.specs.clock.Id as plain
use Rattle.id_tree.specs.declared.id_tree.Parts.{Parts}
use Rattle.id_tree.specs.declared.id_tree.Parts.TheVariants.{Zero, One, Pair}

-- the id whose parts they are
abbrev pub id_of_parts : Parts → plain.Id
id_of_parts Zero = plain.Zero
id_of_parts One = plain.One
id_of_parts (Pair left right) = plain.Pair left.now right.now
