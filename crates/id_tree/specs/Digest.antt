-- The digest of an id: a number that is the same for equal ids, and differs for most that differ.
use Rattle.std.specs.Prelude.{ℕ}
use Rattle.trace_types.specs.clock.Id.{Id, Zero, One, Pair}
use Rattle.trace_types.specs.clock.Digest.{digest_of_both}

abbrev pub digest : Id → ℕ
digest Zero = 0
digest One = 1
digest (Pair left right) = digest_of_both (digest left) (digest right)
