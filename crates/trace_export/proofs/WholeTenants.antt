-- What is kept of the events of a tenant, once all are listed and nothing is made of them.
use Rattle.std.proofs.Common.{◌≡◌, ◌↔◌, ◌<◌, ◌≤◌, ℕ, suc, Vec, Global, List, [], length, sym, ap, subst, arith}
use Rattle.std.specs.List.{Contains}
use Rattle.std.proofs.lemmas.List.{length-map, nil_from_length}
use Rattle.std.proofs.lemmas.List.Elements.{All-contains_itself, All-weaker}
use Rattle.tenant_ledger.specs.Legal.{IsLegal}
use Rattle.tenant_ledger.proofs.clock.Legality.{IsLegal_from_AreLegal}
use Rattle.trace_types.specs.tenant.Limits.{Limits}
use Rattle.trace_types.specs.tenant.Reachability.{predecessors_of}
use Rattle.trace_types.specs.tenant.Rows.{History, history_of}
use Rattle.trace_types.specs.tenant.Tenant.{AreLegal}
use Rattle.trace_types.specs.declared.row.Row.{Row}
use Rattle.trace_types.proofs.Reachability.{predecessors_of_before}
use Rattle.trace_export.specs.Bits.{HasBit}
use Rattle.trace_export.specs.Chains.{AreChains}
use Rattle.trace_export.specs.Edges.{Placing}
use Rattle.trace_export.specs.Following.{placing_of}
use Rattle.trace_export.specs.Graph.{AreAllAlike, AreEarlier, EdgesLeadBack, IsFollowed, IsGraph, IsKeptGraph, rows_of}
use Rattle.trace_export.specs.declared.graph.Graph.{Graph}
use Rattle.trace_export.specs.declared.placed.Placed.{Placed}
use Rattle.trace_export.proofs.LegalRows.{AreSound, legal_rows_are_sound}
use Rattle.trace_export.proofs.ListedRows.{counted}
use Rattle.trace_export.proofs.Placings.{ordered_alike, preds_are}
use Rattle.trace_export.proofs.RaisedPoints.{no_points}

-- the listed edges lead back
edges_back : (history : History) → AreSound history → EdgesLeadBack (placing_of history)
edges_back history sound event placed =
    let preds = predecessors_of history event in
    subst (λ (found : List ℕ). AreEarlier found event) (sym (preds_are history sound event placed))
    (All-weaker (Contains preds) (λ pred. (0 < pred) × (pred < event)) (λ pred has. let known = predecessors_of_before history event pred has in (omega (arith, known.0), known.1)) preds (All-contains_itself preds))

all_alike : (history : History) → AreSound history → IsLegal history → AreAllAlike (placing_of history)
all_alike history sound legal a b a_placed b_placed less = ordered_alike history sound legal a b a_placed b_placed

-- of no events bits were made
nothing_followed : (placing all : Placing) (rows : List (List ℕ)) (followed : List ℕ) → length rows ≡ 0 → IsGraph placing rows followed → (place : ℕ) → HasBit followed place ↔ IsFollowed all (length rows) (suc place)
nothing_followed placing all rows followed none graph place = (
  (λ has. let by = (graph.followed_are place).0 has in absurd (omega (arith, none, by.1.0, by.1.1))),
  (λ (by : IsFollowed all (length rows) (suc place)). absurd (omega (arith, none, by.1.0, by.1.1))),
)

-- nor chains
no_chains : (all : Placing) (before tails : List ℕ) → length before ≡ 0 → AreChains all before tails
no_chains all before tails none = record {
  follows = λ event some few. absurd (omega (arith, none, some, few));
  ends = λ event some few. absurd (omega (arith, none, some, few));
}

-- all events of the tenant are listed
pub tenant_listed : (graph : Graph) → IsKeptGraph graph → graph.placed.items ≡ [] → (limits : Limits) (rows : List Row) → AreLegal limits rows → length rows ≤ 16384
    → (all : Vec Placed Global) → all.items ≡ placing_of (history_of rows) → IsKeptGraph (record graph { placed = all })
tenant_listed graph kept empty limits rows legal few all is =
    let listed = placing_of (history_of rows) in
    let sound = legal_rows_are_sound limits rows legal in
    let no_rows : length (rows_of graph) ≡ 0 = omega (arith, kept.lines.row_count, ap length empty) in
    let no_chained : length graph.chains.before.items ≡ 0 = omega (arith, no_rows, kept.chained, length-map graph.reaching.items (λ (row : Vec ℕ Global). row.items)) in
    let no_hints : length graph.hints.points.items ≡ 0 = omega (arith, kept.points.0, ap length empty) in
    record {
      lines = subst (λ (these : Placing). IsGraph these (rows_of graph) graph.followed.items) (sym is) (record {
        back = edges_back (history_of rows) sound;
        alike = all_alike (history_of rows) sound (IsLegal_from_AreLegal limits rows legal);
        row_count = omega (arith, no_rows);
        reaching = λ event some within. absurd (omega (arith, no_rows, some, within));
        room = λ event some within. absurd (omega (arith, no_rows, some, within));
        followed_are = nothing_followed graph.placed.items listed (rows_of graph) graph.followed.items no_rows kept.lines;
      });
      few = omega (arith, few, ap length is, counted rows);
      room = kept.room;
      chains = no_chains all.items graph.chains.before.items graph.chains.tails.items no_chained;
      chained = kept.chained;
      ends_room = kept.ends_room;
      points = no_points graph.hints.points.items all.items (nil_from_length graph.hints.points.items no_hints);
    }
