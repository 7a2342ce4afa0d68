-- What a clause sees of a tree that a forest keeps.
use Rattle.std.specs.Prelude.{◌≡◌, ℕ, List}
use base.Stored.{Coded, coded×, coded_ℕ, coded_list, coded_via}

-- its value, the number of its row, and the home of its forest
pub record Kept (T : Type 0) : Type 0 where
  pub value : T
  pub number : ℕ
  pub home : List ℕ

abbrev pub kept_coded : {T : Type 0} → Coded T → Coded (Kept T)
kept_coded {T} c = coded_via (coded× c (coded× coded_ℕ (coded_list coded_ℕ))) (λ (tree : Kept T). (tree.value, (tree.number, tree.home)))
    (λ x y e i. record { value = (e i).0; number = (e i).1.0; home = (e i).1.1 })

-- the forest of this home keeps the tree
abbrev pub IsOf : {T : Type 0} → List ℕ → Kept T → Type 0
IsOf forest tree = tree.home ≡ forest
