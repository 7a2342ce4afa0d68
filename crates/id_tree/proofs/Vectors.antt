-- The published vectors, computed by the definitions.
use Rattle.std.proofs.Common.{◌≡◌, refl}
use Rattle.trace_types.specs.clock.Id.{Zero, One, Pair}
use Rattle.trace_types.specs.clock.IdOperations.{split, sum}

-- the left half, into its quarters
split-left_half : split (Pair One Zero) ≡ (Pair (Pair One Zero) Zero, Pair (Pair Zero One) Zero)
split-left_half = refl

-- the first and the last quarter, into the one and the other
split-two_quarters : split (Pair (Pair One Zero) (Pair Zero One)) ≡ (Pair (Pair One Zero) Zero, Pair Zero (Pair Zero One))
split-two_quarters = refl

-- two halves are everything
sum-two_halves : sum (Pair One Zero) (Pair Zero One) ≡ One
sum-two_halves = refl

-- the first quarter and the third
sum-two_quarters : sum (Pair (Pair One Zero) Zero) (Pair Zero (Pair One Zero)) ≡ Pair (Pair One Zero) (Pair One Zero)
sum-two_quarters = refl
