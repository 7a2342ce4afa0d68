-- Ids of the interval tree clock (Almeida, Baquero and Fonte 2008), as plain trees.
use Rattle.std.specs.Prelude.{◌≡◌, Bool, true, false}
use Rattle.trace_types.specs.clock.Points.{Point, half_of, within_half, at_half}

-- No point, all points, or what the two halves own.
pub data Id : Type 0 where
  Zero : Id
  One : Id
  Pair : (left right : Id) → Id

-- whether the id owns the point
abbrev pub owns : Id → Point → Bool
owns Zero point = false
owns One point = true
owns (Pair left right) point = at_half (half_of point) (owns left (within_half point)) (owns right (within_half point))

-- the two halves are not both nothing, and not both everything
abbrev pub AreApart : Id → Id → Type 0
AreApart Zero Zero = ⊥
AreApart One One = ⊥
AreApart left right = Unit {0}

-- no node of the id could be written shorter
abbrev pub IsNormalId : Id → Type 0
IsNormalId Zero = Unit {0}
IsNormalId One = Unit {0}
IsNormalId (Pair left right) = IsNormalId left × IsNormalId right × AreApart left right

-- no point is owned by both
abbrev pub AreDisjoint : Id → Id → Type 0
AreDisjoint a b = (point : Point) → owns a point ≡ true → owns b point ≡ true → ⊥
