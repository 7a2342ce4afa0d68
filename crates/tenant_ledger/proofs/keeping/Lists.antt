-- What stands at a place of a list that is longer by some items, and what is told of each event.
use Rattle.std.proofs.Common.{All, ◌≡◌, ◌≢◌, ℕ, zero, suc, ◌-◌, ◌<◌, ◌≤◌, List, [], ◌∷◌, ◌++◌, length, map, slice_get, Some, refl, sym, ap, ◌∙◌, inl, inr, arith}
use Rattle.std.proofs.lemmas.List.Elements.{All-nil, All-cons, All-head, All-tail}
use Rattle.tenant_ledger.proofs.Words.{cases_eq, length-append, map-append, Id, History, Row, of_each, with_seed}

-- what stands in a list stands there in a longer one
pub slice_get-longer : {X : Type 0} (xs ys : List X) (place : ℕ) (x : X) → slice_get xs place ≡ Some x → slice_get (xs ++ ys) place ≡ Some x
slice_get-longer [] ys place x there = cc
slice_get-longer (first ∷ xs) ys zero x there = there
slice_get-longer (first ∷ xs) ys (suc place) x there = slice_get-longer xs ys place x there

-- and what is added stands behind it
pub slice_get-seam : {X : Type 0} (xs : List X) (x : X) (rest : List X) → slice_get (xs ++ x ∷ rest) (length xs) ≡ Some x
slice_get-seam [] x rest = refl
slice_get-seam (first ∷ xs) x rest = slice_get-seam xs x rest

pub slice_get-behind : {X : Type 0} (xs : List X) (x other : X) (rest : List X) → slice_get (xs ++ x ∷ other ∷ rest) (suc (length xs)) ≡ Some other
slice_get-behind [] x other rest = refl
slice_get-behind (first ∷ xs) x other rest = slice_get-behind xs x other rest

-- what stood at some places stands there in the longer list
pub same_places : {X : Type 0} (xs more : List X) (places : List ℕ) (found : List X) → map (slice_get xs) places ≡ map Some found
    → map (slice_get (xs ++ more)) places ≡ map Some found
same_places xs more [] [] is = refl
same_places xs more (place ∷ places) (x ∷ found) is =
    let here : slice_get xs place ≡ Some x = cc in
    let rest : map (slice_get xs) places ≡ map Some found = cc in
    λ i. slice_get-longer xs more place x here i ∷ same_places xs more places found rest i
same_places xs more places found is = cc

module _ {A : Type 0} (told : History → ℕ → A) where
  pub length-of_each : (history : History) → length (of_each told history) ≡ length history
  length-of_each [] = refl
  length-of_each (row ∷ earlier) = omega (arith, length-of_each earlier, length-append (of_each told earlier) (told (row ∷ earlier) (suc (length earlier)) ∷ []))

  -- a row more leaves what is told of the events before it
  abbrev pub Stays : Type 0
  Stays = (row : Row) (earlier : History) (event : ℕ) → event ≢ suc (length earlier) → told (row ∷ earlier) event ≡ told earlier event

  -- then each event has in the list what is told of it
  pub at_event : Stays → (history : History) (event : ℕ) → 0 < event → event ≤ length history
      → slice_get (of_each told history) (event - 1) ≡ Some (told history event)
  at_event stays [] event positive within = absurd (omega (arith, positive, within))
  at_event stays (row ∷ earlier) event positive within =
      let newest = told (row ∷ earlier) (suc (length earlier)) in
      elim (cases_eq event (suc (length earlier))) [
        | inl last ↦
            let place : length (of_each told earlier) ≡ event - 1 = omega (arith, last, length-of_each earlier) in
            ap (slice_get (of_each told (row ∷ earlier))) (sym place) ∙ slice_get-seam (of_each told earlier) newest []
            ∙ ap (λ e. Some (told (row ∷ earlier) e)) (sym last)
        | inr older ↦
            let before : event ≤ length earlier = omega (arith, within, older) in
            slice_get-longer (of_each told earlier) (newest ∷ []) (event - 1) (told earlier event) (at_event stays earlier event positive before)
            ∙ ap Some (sym (stays row earlier event older))
      ]

-- the seed stands for the first id until one is kept
pub seeded-append : {I : Type 0} (meant : I → Id) (ids more : List I) → 0 < length ids → with_seed (map meant (ids ++ more)) ≡ with_seed (map meant ids) ++ map meant more
seeded-append meant [] more some = absurd (omega (arith, some))
seeded-append meant (first ∷ ids) more some = map-append meant (first ∷ ids) more

-- what holds of all that a list is mapped to holds of each that it has
pub unmapped : {X Y : Type 0} (f : Y → X) (P : X → Type 0) (ys : List Y) → All P (map f ys) → All (λ y. P (f y)) ys
unmapped f P [] all = All-nil (λ y. P (f y))
unmapped f P (y ∷ ys) all = All-cons (λ y. P (f y)) y ys (All-head P (f y) (map f ys) all) (unmapped f P ys (All-tail P (f y) (map f ys) all))
