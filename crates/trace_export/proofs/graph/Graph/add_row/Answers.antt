use Rattle.std.proofs.Common.{◌≡◌, ◌↔◌, ◌-◌, ◌<◌, ◌∙◌, suc, map, List, [], ℕ, Vec, Global, length, slice_index_or, sym, ap, subst, arith}
use Rattle.std.proofs.lemmas.List.{get_or_default}
use Rattle.trace_types.specs.clock.EventTree.{Leaf}
use Rattle.trace_export.specs.Bits.{HasBit}
use Rattle.trace_export.specs.Edges.{listed_preds}
use Rattle.trace_export.specs.Graph.{AreEarlier, IsReachedBy, rows_of}
use Rattle.trace_export.specs.declared.placed.Placed.{Placed}
use Rattle.trace_export.proofs.graph.Graph.add_row.Goals as goal

pub reached_by-requires-clause-preds : goal.reached_by-requires-clause-preds
reached_by-requires-clause-preds c =
    let placing = c.args.self.now.placed.items in
    let count = length c.args.self.now.reaching.items in
    let within : c.len.result < length placing = omega (arith, c.len.ensures, c.requires.some) in
    let place : c.len.result ≡ suc count - 1 = omega (arith, c.len.ensures) in
    let same : c.as_slice.result.now ≡ listed_preds placing (suc count) =
    c.as_slice.ensures.events ∙ c.share-preds.ensures ∙ ap (λ (found : Placed). found.preds)
    (c.index.ensures ∙ get_or_default placing c.len.result c.index.result.now (record { preds = []; tree = Leaf 0 }) within ∙ ap (λ k. slice_index_or placing k (record { preds = []; tree = Leaf 0 })) place) in
    subst (λ (preds : List ℕ). AreEarlier preds (suc count)) (sym same) (c.requires.graph.lines.back (suc count) (omega arith, omega (arith, c.requires.some)))

pub put_row-requires-clause-reaching : goal.put_row-requires-clause-reaching
put_row-requires-clause-reaching c = λ place.
    subst (λ (rows : List (List ℕ)). HasBit c.in_ok-row.row.items place ↔ IsReachedBy rows c.as_slice-2.result.now place) (sym (ap (map (λ (row : Vec ℕ Global). row.items)) c.in_ok-reserve.ensures.items))
    (subst (λ (preds : List ℕ). HasBit c.in_ok-row.row.items place ↔ IsReachedBy (rows_of c.args.self.now) preds place) (c.as_slice.ensures.events ∙ sym c.as_slice-2.ensures.events) (c.in_ok-row.ensures.reaching place))
