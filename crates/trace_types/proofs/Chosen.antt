-- Which numbers stand in a list that a test chooses.
use Rattle.std.proofs.Common.{◌≡◌, ℕ, zero, suc, ◌+◌, ◌-◌, ◌<◌, ◌≤◌, ◌↔◌, Bool, true, List, [], ◌∷◌, length, get_or, Contains, sym, ap, subst, ◌∙◌, arith}
use Rattle.std.specs.List.{filter, range_with_len}
use Rattle.std.specs.List.Sorted.{IsStrictlyIncreasing}
use Rattle.std.proofs.lemmas.Bool.{cond-true, cond_both}
use Rattle.std.proofs.lemmas.List.Elements.{All-contains, All-filter, All-contains_itself, filter_passes}
use Rattle.std.proofs.lemmas.List.FromFn.{length-range_with_len, get_or-range_with_len}

-- one more in front
pub Contains-cons : {X : Type 0} (first : X) (xs : List X) (x : X) → Contains xs x → Contains (first ∷ xs) x
Contains-cons first xs x one = (suc one.0, omega (arith, one.1), one.2)

-- what passes the test is kept
pub Contains-filter : {X : Type 0} (test : X → Bool) (xs : List X) (x : X) → Contains xs x → test x ≡ true → Contains (filter test xs) x
Contains-filter test [] x one passes = absurd (omega (arith, one.1))
Contains-filter {X} test (first ∷ xs) x one passes = at one.0 one.1 one.2 (λ later. Contains-filter test xs x later passes)
  where
    at : (k : ℕ) → k < length (first ∷ xs) → get_or (first ∷ xs) k x ≡ x → (Contains xs x → Contains (filter test xs) x) → Contains (filter test (first ∷ xs)) x
    at zero within is known =
        subst (λ ys. Contains ys x) (sym (cond-true (test first) (first ∷ filter test xs) (filter test xs) (ap test is ∙ passes))) (0, omega arith, is)
    at (suc k) within is known =
        let later : Contains (filter test xs) x = known (k, omega arith, is) in
        cond_both (test first) (first ∷ filter test xs) (filter test xs) (λ ys. Contains ys x) (λ _. Contains-cons first (filter test xs) x later) (λ _. later)

-- and nothing else
pub filter-Contains : {X : Type 0} (test : X → Bool) (xs : List X) (x : X) → Contains (filter test xs) x → Contains xs x × (test x ≡ true)
filter-Contains test xs x one = (
  All-contains (Contains xs) (filter test xs) x (All-filter test (Contains xs) xs (All-contains_itself xs)) one,
  All-contains (λ y. test y ≡ true) (filter test xs) x (filter_passes test xs) one,
)

-- the numbers from 1 to n
pub Contains-numbers : (n number : ℕ) → Contains (range_with_len 1 n) number ↔ ((0 < number) × (number ≤ n))
Contains-numbers n number = (
  λ one.
      let long : length (range_with_len 1 n) ≡ n = length-range_with_len 1 n in
      let at : get_or (range_with_len 1 n) one.0 number ≡ 1 + one.0 = get_or-range_with_len 1 n one.0 number (omega (arith, one.1)) in
      let is : number ≡ 1 + one.0 = sym one.2 ∙ at in
      (omega (arith, is), omega (arith, is, long, one.1)),
  λ bounds.
      let long : length (range_with_len 1 n) ≡ n = length-range_with_len 1 n in
      let at : get_or (range_with_len 1 n) (number - 1) number ≡ 1 + (number - 1) = get_or-range_with_len 1 n (number - 1) number (omega (arith, bounds.0, bounds.1)) in
      let back : 1 + (number - 1) ≡ number = omega (arith, bounds.0) in
      (number - 1, omega (arith, long, bounds.0, bounds.1), at ∙ back),
)

-- come in order
pub numbers_increase : (n : ℕ) → IsStrictlyIncreasing (range_with_len 1 n)
numbers_increase n k within =
    let long : length (range_with_len 1 n) ≡ n = length-range_with_len 1 n in
    let one : get_or (range_with_len 1 n) k 0 ≡ 1 + k = get_or-range_with_len 1 n k 0 (omega arith) in
    let next : get_or (range_with_len 1 n) (k + 1) 0 ≡ 1 + (k + 1) = get_or-range_with_len 1 n (k + 1) 0 (omega arith) in
    omega arith
