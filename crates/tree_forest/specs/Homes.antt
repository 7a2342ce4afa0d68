-- Where the rows of a forest lie.
use Rattle.std.specs.Prelude.{◌≡◌, ℕ, List, map, slice_index_or}
use Rattle.boxcar.specs.Table.{Shelves, Where}

-- the home of a forest, by which clauses tell it from another: the ids of the buckets of its table
abbrev pub home_of : Shelves → List ℕ
home_of table = map (λ bucket. bucket.id) table.buckets

-- the row lies in one of the buckets of this home
abbrev pub LiesIn : {T : Type 0} → List ℕ → Where T → Type 0
LiesIn home row = row.row ≡ slice_index_or home row.bucket 0
