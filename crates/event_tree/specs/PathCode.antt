-- A path as what it goes to the right at, from its lowest level up.
use Rattle.std.specs.Prelude.{Bool, true, false, List, map, reverse}
use Rattle.trace_types.specs.clock.Points.{Half, Left, Right, Point}

-- the half to which a step goes
abbrev pub half_on : Bool → Half
half_on false = Left
half_on true = Right

-- the halves, from the uppermost level down
abbrev pub point_of : List Bool → Point
point_of rights = map half_on (reverse rights)
