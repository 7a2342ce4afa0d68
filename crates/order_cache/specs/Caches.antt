-- What a clause sees of a cache.
use Rattle.std.specs.Prelude.{ℕ, List}

-- the home of the forest whose trees it compares, and how many comparisons it has room for
pub record Cache : Type 0 where
  pub home : List ℕ
  pub capacity : ℕ
