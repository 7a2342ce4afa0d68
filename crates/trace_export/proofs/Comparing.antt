-- Whether an event has the predecessors and the stamp that are listed.
use Rattle.std.proofs.Common.{◌≡◌, ◌↔◌, ℕ, Bool, true, false, not, IsTrue, List, Some, refl, sym, ap, ◌∙◌}
use Rattle.std.specs.Cmp.Lexicographic.{pointwise}
use Rattle.std.specs.List.{slice_get, slice_index_or}
use Rattle.std.specs.Prelude.{nat_eq}
use Rattle.std.proofs.lemmas.Bool.{false≢true}
use Rattle.std.proofs.lemmas.Option.{get_or_from_slice_get}
use Rattle.std.proofs.lemmas.Slice.Eq.{bytes_eq-Decides}
use Rattle.trace_types.specs.clock.Stamps.{stamp_text_of}
use Rattle.trace_types.specs.tenant.Rows.{history_of}
use Rattle.trace_types.specs.declared.row.Row.{Row}
use Rattle.trace_export.specs.Listing.{Listed}
use Rattle.trace_export.specs.Loading.{IsAsListed}

-- the row that was lent is the one at the place
pub row_is : (lent rows : List Row) (place : ℕ) (item row : Row) → lent ≡ rows → item ≡ slice_index_or lent place item → slice_get rows place ≡ Some row → item ≡ row
row_is lent rows place item row same is at = is ∙ get_or_from_slice_get lent place row item (ap (λ these. slice_get these place) same ∙ at)

not_false : (b : Bool) → not b ≡ false → b ≡ true
not_false true e = refl
not_false false e = cc

same_numbers : (a b : List ℕ) (differ : Bool) → differ ≡ not (pointwise nat_eq a b) → differ ≡ false → a ≡ b
same_numbers a b differ is unequal = (bytes_eq-Decides a b).0 (not_false (pointwise nat_eq a b) (sym is ∙ unequal))

other_numbers : (a b : List ℕ) (differ : Bool) → differ ≡ not (pointwise nat_eq a b) → differ ≡ true → a ≡ b → ⊥
other_numbers a b differ is holds same =
    let unequal : not (pointwise nat_eq a b) ≡ false = ap not ((bytes_eq-Decides a b).1 same) in
    false≢true (sym unequal ∙ sym is ∙ holds)

-- it has other predecessors
pub other_preds : (rows : List Row) (event : ℕ) (row item : Row) (listed : Listed) (differ : Bool) → item ≡ row → differ ≡ not (pointwise nat_eq item.preds listed.preds) → differ ≡ true
    → IsTrue false ↔ IsAsListed rows event row listed
other_preds rows event row item listed differ same is holds =
    ((λ unequal. absurd (false≢true unequal)), (λ as_listed. absurd (other_numbers item.preds listed.preds differ is holds (ap (λ (found : Row). found.preds) same ∙ as_listed.0))))

-- it has those that are listed, and so the stamp decides
pub same_preds : (rows : List Row) (event : ℕ) (row item : Row) (listed : Listed) (differ stamp : Bool) → item ≡ row → differ ≡ not (pointwise nat_eq item.preds listed.preds) → differ ≡ false
    → (IsTrue stamp ↔ (stamp_text_of (history_of rows) event ≡ listed.stamp)) → IsTrue stamp ↔ IsAsListed rows event row listed
same_preds rows event row item listed differ stamp same is unequal has =
    ((λ holds. (sym (ap (λ (found : Row). found.preds) same) ∙ same_numbers item.preds listed.preds differ is unequal, has.0 holds)), (λ as_listed. has.1 as_listed.1))
