-- JSON that is a list of numbers.
use Rattle.std.proofs.Common.{◌≡◌, ◌≢◌, ℕ, suc, ◌≤◌, List, [], ◌∷◌, length, map, Option, Some, None, option_and_then, slice_index_or, refl, sym, ap, ◌∙◌, arith}
use Rattle.std.proofs.lemmas.List.{length-map}
use Rattle.std.proofs.lemmas.Option.{none-some}
use Rattle.serde_json.specs.Data.{Data, Items, no_items, item}
use Rattle.serde_json.specs.Find.{as_u64, as_number}
use Rattle.serde_json.specs.View.{view, items_of}
use Rattle.serde_json.specs.declared.value.Value.{Value}
use Rattle.trace_export.specs.Listing.{numbers_json}

-- the number that stands at the front
abbrev first_number : Items → Option ℕ
first_number no_items = Some 0
first_number (item d ds) = option_and_then as_u64 (as_number d)

-- the items behind it
abbrev behind_first : Items → Items
behind_first no_items = no_items
behind_first (item d ds) = ds

abbrev item_count : Items → ℕ
item_count no_items = 0
item_count (item d ds) = suc (item_count ds)

not_first : (d : Data) (ds : Items) (ns : List ℕ) → option_and_then as_u64 (as_number d) ≡ None → item d ds ≢ numbers_json ns
not_first d ds [] none is = omega (arith, ap item_count is)
not_first d ds (n ∷ ns) none is = none-some n (sym none ∙ ap first_number is)

item_count-numbers : (ns : List ℕ) → item_count (numbers_json ns) ≡ length ns
item_count-numbers [] = refl
item_count-numbers (n ∷ ns) = ap suc (item_count-numbers ns)

item_count-of : (ds : List Data) → item_count (items_of ds) ≡ length ds
item_count-of [] = refl
item_count-of (d ∷ ds) = ap suc (item_count-of ds)

-- what is no list of numbers, as its first item or the one behind it is no number, or there are too many

pub first_is_no_number : (values : List Value) (other : Value) → 1 ≤ length values
    → option_and_then as_u64 (as_number (view (slice_index_or values 0 other))) ≡ None
    → (ns : List ℕ) → items_of (map view values) ≢ numbers_json ns
first_is_no_number [] other some none ns is = omega (arith, some)
first_is_no_number (value ∷ values) other some none ns is = not_first (view value) (items_of (map view values)) ns none is

pub second_is_no_number : (values : List Value) (other : Value) → 2 ≤ length values
    → option_and_then as_u64 (as_number (view (slice_index_or values 1 other))) ≡ None
    → (ns : List ℕ) → items_of (map view values) ≢ numbers_json ns
second_is_no_number [] other some none ns is = omega (arith, some)
second_is_no_number (value ∷ values) other some none [] is = omega (arith, ap item_count is)
second_is_no_number (value ∷ []) other some none (n ∷ ns) is = omega (arith, some)
second_is_no_number (first ∷ value ∷ values) other some none (n ∷ ns) is = not_first (view value) (items_of (map view values)) ns none (ap behind_first is)

pub too_many_numbers : (values : List Value) → 3 ≤ length values
    → (ns : List ℕ) → length ns ≤ 2 → items_of (map view values) ≢ numbers_json ns
too_many_numbers values many ns few is = omega (arith, many, few, length-map values view, item_count-of (map view values), ap item_count is, item_count-numbers ns)
