-- A number for two numbers. Most pairs that differ have numbers that differ; that two pairs of one number are the same is
-- never concluded.
use Rattle.std.specs.Prelude.{ℕ, ◌*◌, ◌%◌, ◌/◌, ◌^◌}
use Rattle.std.specs.Int.{rotate_left, w64}
use Rattle.std.specs.Int.Bits.{bit_xor}

-- an odd number whose bits follow no pattern: 2 ^ 64 over the golden ratio
abbrev pub multiplier : ℕ
multiplier = 11400714819323198485

-- The upper half of a product depends on more of its factors than the lower half, so it is added there.
abbrev pub spread_out : ℕ → ℕ
spread_out product = bit_xor product (product / 2 ^ 32)

-- The first number is turned by 31 bits, one fewer than half: turned by half, two equal numbers would leave the same bits
-- twice.
abbrev pub digest_of_both : ℕ → ℕ → ℕ
digest_of_both first second = spread_out ((bit_xor (rotate_left w64 first 31) second * multiplier) % 2 ^ 64)
