use Rattle.std.proofs.Common.{◌≡◌, ◌↔◌, ◌⊎◌, suc, map, ◌∷◌, [], sym, ap, ◌∙◌, List, ℕ, Vec, Global, Contains, subst, length, arith, length-append}
use Rattle.std.proofs.lemmas.List.{length-map, map-append}
use Rattle.trace_export.specs.Bits.{HasBit}
use Rattle.trace_export.specs.Edges.{listed_preds}
use Rattle.trace_export.specs.Graph.{IsGraph, IsReachedBy, rows_of}
use Rattle.trace_export.proofs.Chaining.{one_chained}
use Rattle.trace_export.proofs.Rows.{one_made}
use Rattle.trace_export.proofs.graph.Graph.put_row.Goals as goal

pub returns-clause-graph : goal.returns-clause-graph
returns-clause-graph c =
    let graph = c.requires.graph in
    let placing = c.args.self.now.placed.items in
    let rows = rows_of c.args.self.now in
    let count : length rows ≡ length c.args.self.now.reaching.items = length-map c.args.self.now.reaching.items (λ (row : Vec ℕ Global). row.items) in
    let preds : c.args.preds.now ≡ listed_preds placing (suc (length rows)) = c.requires.preds ∙ ap (λ n. listed_preds placing (suc n)) (sym count) in
    let reached : (place : ℕ) → HasBit c.args.reaching.items place ↔ IsReachedBy rows (listed_preds placing (suc (length rows))) place =
    subst (λ (events : List ℕ). (place : ℕ) → HasBit c.args.reaching.items place ↔ IsReachedBy rows events place) preds c.requires.reaching in
    let added : (place : ℕ) → HasBit c.follow.new.followed.items place ↔ (HasBit c.args.self.now.followed.items place ⊎ Contains (listed_preds placing (suc (length rows))) (suc place)) =
    subst (λ (events : List ℕ). (place : ℕ) → HasBit c.follow.new.followed.items place ↔ (HasBit c.args.self.now.followed.items place ⊎ Contains events (suc place))) preds c.follow.ensures.followed in
    let more = one_made placing rows c.args.self.now.followed.items graph.lines (omega (arith, count, c.requires.some)) c.args.reaching.items reached c.follow.new.followed.items added (omega (arith, count, c.requires.short)) in
    let rows_are = ap (map (λ (row : Vec ℕ Global). row.items)) c.push_reserved.ensures.items ∙ map-append (λ (row : Vec ℕ Global). row.items) c.args.self.now.reaching.items (c.args.reaching ∷ []) in
    let behind : c.args.preds.now ≡ listed_preds placing (suc (length c.args.self.now.chains.before.items)) = c.requires.preds ∙ ap (λ n. listed_preds placing (suc n)) (sym graph.chained) in
    record {
      lines = subst (λ (these : List (List ℕ)). IsGraph placing these c.follow.new.followed.items) (sym rows_are) more;
      few = graph.few;
      room = omega (arith, c.follow.ensures.len, graph.room);
      chains = one_chained placing c.args.preds.now c.args.self.now.chains.before.items c.args.self.now.chains.tails.items c.put.new.self.before.items c.put.new.self.tails.items graph.chains c.put.ensures.put behind;
      chained = omega (arith, ap length c.put.ensures.put.grown, length-append c.args.self.now.chains.before.items (c.put.ensures.put.last ∷ []), ap length c.push_reserved.ensures.items, length-append c.args.self.now.reaching.items (c.args.reaching ∷ []), graph.chained);
      ends_room = omega (arith, c.put.ensures.len, graph.ends_room);
      points = graph.points;
    }
