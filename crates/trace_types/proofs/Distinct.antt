-- The places of names of which none stands twice.
use Rattle.std.proofs.Common.{◌≡◌, ◌↔◌, ℕ, zero, suc, true, false, not, List, [], ◌∷◌, length, get_or, slice_get, Option, Some, refl, sym, ap, ◌∙◌, subst}
use Rattle.std.specs.Prelude.{IfSome}
use Rattle.std.specs.List.{list_any}
use Rattle.std.proofs.lemmas.Bool.{and_parts, not-true, false≢true, false_from_ne_true}
use Rattle.std.proofs.lemmas.List.Folds.{list_any_at}
use Rattle.std.proofs.lemmas.Option.{same_Some, slice_get-get_or, slice_get_within, get_or_from_slice_get}
use Rattle.trace_types.specs.text.Name.{Text, is_same, is_between}
use Rattle.trace_types.specs.world.Replay.{place_of}
use Rattle.trace_types.proofs.Names.{is_same_iff}
use Rattle.trace_types.specs.world.TenantNames.{are_distinct, can_be_tenants}
use Rattle.trace_types.proofs.Places.{IsPlace, IsPlace-place_of}

-- a name that is found stands where it is found
pub stands-found : (names : List Text) (name : Text) (place : ℕ) → place_of names name ≡ Some place → slice_get names place ≡ Some name
stands-found names name place found =
    let at = subst (λ (found : Option ℕ). IfSome found (IsPlace names name)) found (IsPlace-place_of names name) in
    slice_get-get_or names place [] at.0 ∙ ap Some (at.1 [])

-- a name that stands once is found where it stands
pub found-stands : (names : List Text) → are_distinct names ≡ true → (name : Text) (place : ℕ) → slice_get names place ≡ Some name → place_of names name ≡ Some place
found-stands [] distinct name place at = absurd (cc)
found-stands (other ∷ names) distinct name zero at = rw ((is_same_iff other name).1 (same_Some other name at)) refl
found-stands (other ∷ names) distinct name (suc place) at =
    let parts = and_parts (not (list_any (λ next. is_same next other) names)) (are_distinct names) distinct in
    let once : list_any (λ next. is_same next other) names ≡ false = not-true (list_any (λ next. is_same next other) names) parts.0 in
    let twice : is_same other name ≡ true → list_any (λ next. is_same next other) names ≡ true = λ same.
    list_any_at (λ next. is_same next other) names place [] (slice_get_within names place name at)
    ((is_same_iff (get_or names place []) other).1 (get_or_from_slice_get names place name [] at ∙ sym ((is_same_iff other name).0 same))) in
    rw (false_from_ne_true (is_same other name) (λ same. false≢true (sym once ∙ twice same)), found-stands names parts.1 name place at) refl

-- a name of a tenant is found exactly where it stands
pub stands_where_found : (names : List Text) → can_be_tenants names ≡ true → (name : Text) (place : ℕ) → (place_of names name ≡ Some place) ↔ (slice_get names place ≡ Some name)
stands_where_found names can name place =
    (stands-found names name place, found-stands names (and_parts (is_between 1 16 (length names)) (are_distinct names) can).1 name place)
