-- What a cache remembers, where each row is seen as the home of its trees.
use Rattle.std.specs.Prelude.{◌≡◌, ℕ, List, Contains}

-- both trees of each row are of the forest of this home
abbrev pub AreOf : {K : Type 0} → List ℕ → List (K × List ℕ) → Type 0
AreOf {K} home rows = (row : K × List ℕ) → Contains rows row → row.1 ≡ home
