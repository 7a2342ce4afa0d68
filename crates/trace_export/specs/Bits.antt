-- Sets of numbers, kept as bits.
use Rattle.std.specs.Prelude.{◌≡◌, ℕ, ◌/◌, ◌%◌, List}
use Rattle.std.specs.List.{slice_index_or}
use Rattle.std.specs.Int.{bit_at}

-- the number is in the set that these words of 64 bits keep
abbrev pub HasBit : List ℕ → ℕ → Type 0
HasBit words n = bit_at (slice_index_or words (n / 64) 0) (n % 64) ≡ 1
