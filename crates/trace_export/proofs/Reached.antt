-- Events that reach one of some.
use Rattle.std.proofs.Common.{◌≡◌, ◌↔◌, ◌⊎◌, ℕ, suc, zero, ◌+◌, ◌-◌, ◌<◌, List, [], ◌∷◌, ◌++◌, length, slice_index_or, take, take-suc, refl, sym, ap, subst, inl, inr, ◌∙◌, arith}
use Rattle.std.specs.List.{Contains}
use Rattle.std.proofs.lemmas.List.Elements.{Contains-append_left, Contains-append_right, Contains-append_cases}
use Rattle.trace_export.specs.Bits.{HasBit}
use Rattle.trace_export.specs.Graph.{IsReachedBy, reaching_row}

-- the place is that of the event, or of one that reaches it
abbrev pub Reaches1 : List (List ℕ) → ℕ → ℕ → Type 0
Reaches1 rows event place = HasBit (reaching_row rows event) place ⊎ (place ≡ event - 1)

the_one : (x y : ℕ) → Contains (x ∷ []) y → x ≡ y
the_one x y (zero, small, is) = is
the_one x y (suc k, small, is) = absurd (omega (arith, small))

reached-one_more : (rows : List (List ℕ)) (preds : List ℕ) (pred place : ℕ) → IsReachedBy rows (preds ++ pred ∷ []) place ↔ (IsReachedBy rows preds place ⊎ Reaches1 rows pred place)
reached-one_more rows preds pred place = (
  (λ (reached : IsReachedBy rows (preds ++ pred ∷ []) place). elim (Contains-append_cases preds (pred ∷ []) reached.0 reached.1) [
    | inl old ↦ inl (reached.0, old, reached.2)
    | inr new ↦ inr (subst (λ event. Reaches1 rows event place) (sym (the_one pred reached.0 new)) reached.2)
  ]),
  (λ (either : IsReachedBy rows preds place ⊎ Reaches1 rows pred place). elim either [
    | inl old ↦ (old.0, Contains-append_left preds (pred ∷ []) old.0 old.1, old.2)
    | inr new ↦ (pred, Contains-append_right preds (pred ∷ []) pred (0, omega arith, refl), new)
  ]),
)

-- one step of the loop over the events that are followed
pub reached-step : (rows : List (List ℕ)) (preds : List ℕ) (k : ℕ) (place : ℕ) (old bits bits' : List ℕ) → k < length preds
    → HasBit bits place ↔ (HasBit old place ⊎ IsReachedBy rows (take k preds) place)
    → HasBit bits' place ↔ (HasBit bits place ⊎ Reaches1 rows (slice_index_or preds k 0) place)
    → HasBit bits' place ↔ (HasBit old place ⊎ IsReachedBy rows (take (k + 1) preds) place)
reached-step rows preds k place old bits bits' within known step =
    let next : k + 1 ≡ suc k = omega arith in
    let one : take (k + 1) preds ≡ take k preds ++ slice_index_or preds k 0 ∷ [] = ap (λ n. take n preds) next ∙ take-suc preds k 0 within in
    let more = reached-one_more rows (take k preds) (slice_index_or preds k 0) place in (
      (λ has. elim (step.0 has) [
        | inl before ↦ elim (known.0 before) [ inl first ↦ inl first | inr reached ↦ inr (subst (λ events. IsReachedBy rows events place) (sym one) (more.1 (inl reached))) ]
        | inr now ↦ inr (subst (λ events. IsReachedBy rows events place) (sym one) (more.1 (inr now)))
      ]),
      (λ (either : HasBit old place ⊎ IsReachedBy rows (take (k + 1) preds) place). elim either [
        | inl first ↦ step.1 (inl (known.1 (inl first)))
        | inr reached ↦ elim (more.0 (subst (λ events. IsReachedBy rows events place) one reached)) [
          | inl before ↦ step.1 (inl (known.1 (inr before)))
          | inr now ↦ step.1 (inr now)
        ]
      ]),
    )

-- one step of the loop that adds the bits of events
pub added-step : (events : List ℕ) (k : ℕ) (place : ℕ) (old bits bits' : List ℕ) → k < length events → 0 < slice_index_or events k 0
    → HasBit bits place ↔ (HasBit old place ⊎ Contains (take k events) (suc place))
    → HasBit bits' place ↔ (HasBit bits place ⊎ (place ≡ slice_index_or events k 0 - 1))
    → HasBit bits' place ↔ (HasBit old place ⊎ Contains (take (k + 1) events) (suc place))
added-step events k place old bits bits' within some known step =
    let event = slice_index_or events k 0 in
    let next : k + 1 ≡ suc k = omega arith in
    let one : take (k + 1) events ≡ take k events ++ slice_index_or events k 0 ∷ [] = ap (λ n. take n events) next ∙ take-suc events k 0 within in (
      (λ has. elim (step.0 has) [
        | inl before ↦ elim (known.0 before) [ inl first ↦ inl first | inr among ↦ inr (subst (λ some. Contains some (suc place)) (sym one) (Contains-append_left (take k events) (slice_index_or events k 0 ∷ []) (suc place) among)) ]
        | inr this ↦
            let is : slice_index_or events k 0 ≡ suc place = omega (arith, this, some) in
            inr (subst (λ some. Contains some (suc place)) (sym one) (Contains-append_right (take k events) (slice_index_or events k 0 ∷ []) (suc place) (0, omega arith, is)))
      ]),
      (λ (either : HasBit old place ⊎ Contains (take (k + 1) events) (suc place)). elim either [
        | inl first ↦ step.1 (inl (known.1 (inl first)))
        | inr among ↦ elim (Contains-append_cases (take k events) (slice_index_or events k 0 ∷ []) (suc place) (subst (λ some. Contains some (suc place)) one among)) [
          | inl before ↦ step.1 (inl (known.1 (inr before)))
          | inr this ↦
              let is = the_one (slice_index_or events k 0) (suc place) this in
              step.1 (inr (omega (arith, is)))
        ]
      ]),
    )
