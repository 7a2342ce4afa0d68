-- What is kept of right lines, with one event more that is listed.
use Rattle.std.proofs.Common.{◌≡◌, ◌<◌, ◌∷◌, [], ◌++◌, ℕ, suc, Vec, Global, length, length-append, sym, ap, subst, arith}
use Rattle.std.proofs.lemmas.List.{length-map}
use Rattle.trace_export.specs.Chains.{AreChains}
use Rattle.trace_export.specs.Edges.{Placing}
use Rattle.trace_export.specs.Graph.{AreEarlier, ArePoints, IsGraph, IsKeptGraph, rows_of}
use Rattle.trace_export.specs.Verdict.{IsOrderedNext}
use Rattle.trace_export.specs.declared.graph.Graph.{Graph}
use Rattle.trace_export.specs.declared.placed.Placed.{Placed}
use Rattle.trace_export.proofs.Chaining.{chains-with_next}
use Rattle.trace_export.proofs.RaisedPoints.{points-with_next}
use Rattle.trace_export.proofs.Rows.{one_listed}

-- the event is listed, and nothing is made of it yet
pub listed_more : (graph : Graph) → IsKeptGraph graph → (placed : Placed) → AreEarlier placed.preds (suc (length graph.placed.items)) → length graph.placed.items < 16384 → IsOrderedNext graph.placed.items placed
    → (more : Vec Placed Global) → more.items ≡ graph.placed.items ++ placed ∷ [] → IsKeptGraph (record graph { placed = more })
listed_more graph kept placed earlier few ordered more is =
    let placing = graph.placed.items in
    let before = graph.chains.before.items in
    let tails = graph.chains.tails.items in
    let count = length-map graph.reaching.items (λ (row : Vec ℕ Global). row.items) in
    record {
      lines = subst (λ (these : Placing). IsGraph these (rows_of graph) graph.followed.items) (sym is) (one_listed placing (rows_of graph) graph.followed.items kept.lines placed earlier ordered);
      few = omega (arith, ap length is, length-append placing (placed ∷ []), few);
      room = kept.room;
      chains = subst (λ (these : Placing). AreChains these before tails) (sym is) (chains-with_next placing placed before tails (omega (arith, count, kept.lines.row_count, kept.chained)) kept.chains);
      chained = kept.chained;
      ends_room = kept.ends_room;
      points = subst (λ (these : Placing). ArePoints graph.hints.points.items these) (sym is) (points-with_next graph.hints.points.items placing placed kept.points);
    }
