use Rattle.std.proofs.Common.{◌≡◌, ◌-◌, ◌⊎◌, ℕ, ◌<◌, List, [], All, Vec, Global, length, arith, ap, sym, subst, ◌∙◌}
use Rattle.std.proofs.lemmas.Bool.{false≢true}
use Rattle.std.proofs.lemmas.List.{get_or-map, length-map}
use Rattle.trace_export.specs.Bits.{HasBit}
use Rattle.trace_export.specs.Graph.{reaching_row, rows_of}
use Rattle.trace_export.proofs.Ordering.{followed_reach}
use Rattle.trace_export.proofs.graph.Graph.is_below_last.Goals as goal

pub returns-then-not-are_or_reach-clause-not_below : goal.returns-then-not-are_or_reach-clause-not_below
returns-then-not-are_or_reach-clause-not_below c = λ _ last below.
    let graph = c.requires.graph in
    let count = length-map c.args.self.now.reaching.items (λ (row : Vec ℕ Global). row.items) in
    let within : c.args.event - 1 < length c.args.self.now.reaching.items = omega (arith, c.requires.event.0, c.requires.event.1, graph.whole) in
    let mapped = get_or-map (λ (row : Vec ℕ Global). row.items) c.args.self.now.reaching.items (c.args.event - 1) c.index.result.now [] within in
    let row : c.deref-2.result.now ≡ reaching_row (rows_of c.args.self.now) c.args.event = c.deref-2.ensures.value ∙ ap (λ (row : Vec ℕ Global). row.items) c.index.ensures ∙ sym mapped in
    let all = followed_reach c.args.self.now.placed.items (rows_of c.args.self.now) c.args.self.now.followed.items graph.lines (omega (arith, count, graph.whole)) c.args.placed.now c.requires.preds c.args.event c.requires.event c.requires.above below in
    false≢true (sym c.if-not-are_or_reach.true ∙ c.are_or_reach.ensures.1 (subst (λ (bits : List ℕ). All (λ pred. (pred ≡ c.args.event) ⊎ HasBit bits (pred - 1)) c.args.placed.now.preds) (sym row) all))
