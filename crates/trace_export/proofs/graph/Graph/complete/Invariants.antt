use Rattle.std.proofs.Common.{◌≡◌, ◌-◌, length}
use Rattle.trace_export.specs.Graph.{IsKeptGraph}
use Rattle.trace_export.proofs.graph.Graph.complete.Given as goal

abbrev pub invariant-loop-self : goal.invariant-loop-self
invariant-loop-self l = record {
  placed : l.self.placed ≡ l.fn.self.placed;
  graph : IsKeptGraph l.self;
  hints : l.self.hints ≡ l.fn.self.hints;
}

abbrev pub decreases-loop-self : goal.decreases-loop-self
decreases-loop-self l = length l.self.placed.items - length l.self.reaching.items
