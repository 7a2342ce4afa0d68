-- Parts of a list by where they begin and end.
use Rattle.std.proofs.Common.{◌≡◌, ℕ, ◌+◌, ◌-◌, ◌≤◌, List, length, drop, slice_range, refl, arith, length-take, length-drop}
use Rattle.std.proofs.lemmas.List.{drop-take, drop-drop}

-- the part without its first k
pub slice_range-drop : (xs : List ℕ) (s e k : ℕ) → s + k ≤ e → slice_range xs (s + k) e ≡ drop k (slice_range xs s e)
slice_range-drop xs s e k within =
    let split : e - s ≡ k + (e - (s + k)) = omega arith in
    rw (split, drop-take k (e - (s + k)) (drop s xs), drop-drop k s xs) refl

-- how long a part is
pub length-slice_range : (xs : List ℕ) (s e : ℕ) → s ≤ e → e ≤ length xs → length (slice_range xs s e) ≡ e - s
length-slice_range xs s e from to = simp (length-take, length-drop) (omega arith)
