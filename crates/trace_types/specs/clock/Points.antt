-- The points at which the trees of the clock are read.
use Rattle.std.specs.Prelude.{List, [], ◌∷◌}

-- A half of an interval.
pub data Half : Type 0 where
  Left : Half
  Right : Half

-- A point of the interval from 0 to 1, as a finite list of halves; past its end it goes on with lefts.
abbrev pub Point : Type 0
Point = List Half

-- the half of the interval in which the point lies
abbrev pub half_of : Point → Half
half_of [] = Left
half_of (half ∷ point) = half

-- the point as it lies in that half
abbrev pub within_half : Point → Point
within_half [] = []
within_half (half ∷ point) = point

-- what stands on the side of the half
abbrev pub at_half : {A : Type 0} → Half → A → A → A
at_half Left left right = left
at_half Right left right = right
