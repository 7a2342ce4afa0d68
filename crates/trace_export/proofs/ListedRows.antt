-- What an export lists of a tenant's events, one by one.
use Rattle.std.proofs.Common.{◌≡◌, ℕ, suc, ◌+◌, ◌-◌, ◌<◌, ◌≤◌, List, [], ◌∷◌, ◌++◌, length, take, Some, sym, ap, ◌∙◌, arith}
use Rattle.std.specs.List.{slice_index_or}
use Rattle.std.proofs.Math.Seq.{take-suc}
use Rattle.std.proofs.lemmas.List.{get_or_default, length-reverse, take_all}
use Rattle.std.proofs.lemmas.Option.{same_Some}
use Rattle.trace_types.specs.clock.Clock.{tree_clock}
use Rattle.trace_types.specs.clock.EventTree.{EventTree, Leaf}
use Rattle.trace_types.specs.clock.Stamps.{tree_of}
use Rattle.trace_types.specs.tenant.Rows.{History, history_of, row_of}
use Rattle.trace_types.specs.declared.row.Row.{Row}
use Rattle.tenant_ledger.proofs.keeping.Told.{row_is_kept}
use Rattle.trace_export.specs.Edges.{IsPlaced, Placing, listed_preds, placed_at}
use Rattle.trace_export.specs.Following.{placing_of}
use Rattle.trace_export.specs.declared.placed.Placed.{Placed}
use Rattle.trace_export.proofs.LoadedEvents.{row_of-newest, row_of-older}
use Rattle.trace_export.proofs.Placings.{each_listed, length-placing, trees_are}
use Rattle.trace_export.proofs.StampReplies.{is_event_within}

-- as many events are listed as there are rows
pub counted : (rows : List Row) → length (placing_of (history_of rows)) ≡ length rows
counted rows = length-placing (history_of rows) ∙ length-reverse rows

-- the listed edges are those of the rows
preds_listed : (history : History) (event : ℕ) (row : Row) → IsPlaced (placing_of history) event → row_of history event ≡ Some row → listed_preds (placing_of history) event ≡ row.preds
preds_listed history event row placed is =
    each_listed (λ (history : History) (event : ℕ) (found : Placed). (row : Row) → row_of history event ≡ Some row → found.preds ≡ row.preds)
    (λ newest earlier event new row is. ap (λ (found : Row). found.preds) (same_Some newest row (sym (row_of-newest newest earlier event new) ∙ is)))
    (λ newest earlier event found old known row is. known row (sym (row_of-older newest earlier event old) ∙ is))
    history event placed row is

-- the row at a place has the predecessors that are listed of the event there
pub preds_at : (rows : List Row) (place : ℕ) (row : Row) → place < length rows → (slice_index_or rows place row).preds ≡ listed_preds (placing_of (history_of rows)) (suc place)
preds_at rows place row within =
    let found = slice_index_or rows place row in
    let placed : IsPlaced (placing_of (history_of rows)) (suc place) = (omega arith, omega (arith, within, counted rows)) in
    let here : place ≡ suc place - 1 = omega arith in
    let there = is_event_within rows (suc place) (omega arith, omega (arith, within)) in
    let is = row_is_kept rows (suc place) found there (get_or_default rows place row found within ∙ ap (λ k. slice_index_or rows k found) here) in
    sym (preds_listed (history_of rows) (suc place) found placed is)

-- the event at a place is listed with its predecessors, and with what it knows
pub placed_is : (rows : List Row) (place event : ℕ) (preds : List ℕ) (tree : EventTree) → place < length rows → event ≡ suc place
    → preds ≡ listed_preds (placing_of (history_of rows)) (suc place) → tree ≡ tree_of tree_clock (history_of rows) event
    → (let this : Placed = record { preds = preds; tree = tree } in this) ≡ placed_at (placing_of (history_of rows)) (suc place)
placed_is rows place event preds tree within at preds_are tree_is =
    let all = placing_of (history_of rows) in
    let placed : IsPlaced all (suc place) = (omega arith, omega (arith, within, counted rows)) in
    ap (λ (found : List ℕ). let this : Placed = record { preds = found; tree = tree } in this) preds_are
    ∙ ap (λ (found : EventTree). let this : Placed = record { preds = listed_preds all (suc place); tree = found } in this)
    (tree_is ∙ ap (tree_of tree_clock (history_of rows)) at ∙ sym (trees_are (history_of rows) (suc place) placed))

-- one event more is listed
pub one_more : (all items items' : Placing) (place : ℕ) (placed : Placed) → place < length all → items ≡ take place all → items' ≡ items ++ placed ∷ [] → placed ≡ placed_at all (suc place)
    → items' ≡ take (place + 1) all
one_more all items items' place placed within so_far pushed is =
    let none : Placed = record { preds = []; tree = Leaf 0 } in
    let at : suc place - 1 ≡ place = omega arith in
    let here : placed ≡ slice_index_or all place none = is ∙ ap (λ k. slice_index_or all k none) at in
    let next : suc place ≡ place + 1 = omega arith in
    pushed ∙ ap (λ (before : Placing). before ++ placed ∷ []) so_far ∙ ap (λ (last : Placed). take place all ++ last ∷ []) here ∙ sym (take-suc all place none within)
    ∙ ap (λ k. take k all) next

-- all are
pub all_listed : (rows : List Row) (count : ℕ) → length rows ≤ count → take count (placing_of (history_of rows)) ≡ placing_of (history_of rows)
all_listed rows count whole = take_all count (placing_of (history_of rows)) (omega (arith, whole, counted rows))
