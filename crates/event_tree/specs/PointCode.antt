-- A point as the number whose bits are its halves, the uppermost the lowest bit: 0 is left, 1 is right.
use Rattle.std.specs.Prelude.{ℕ, zero, suc, ◌+◌, ◌*◌, ◌/◌, ◌%◌, [], ◌∷◌}
use Rattle.trace_types.specs.clock.Points.{Half, Left, Right, Point}

-- the half that a bit says
abbrev pub half_of_bit : ℕ → Half
half_of_bit zero = Left
half_of_bit (suc more) = Right

-- the halves of so many levels, which are the lowest bits of the number
unfoldable pub halves_of : ℕ → ℕ → Point
halves_of zero number = []
halves_of (suc levels) number = half_of_bit (number % 2) ∷ halves_of levels (number / 2)

-- the halves of 128 levels, the upper 64 as the bits of the first number, the lower ones as those of the second
abbrev pub halves_of_words : ℕ → ℕ → Point
halves_of_words upper lower = halves_of 128 (upper + 18446744073709551616 * lower)
