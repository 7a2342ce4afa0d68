-- Ids without parts, which take no memory.
use Rattle.trace_types.specs.clock.Id.{Id, Zero, One, Pair}

-- the id is nothing or everything
abbrev pub IsLeafId : Id → Type 0
IsLeafId Zero = Unit {0}
IsLeafId One = Unit {0}
IsLeafId (Pair left right) = ⊥
