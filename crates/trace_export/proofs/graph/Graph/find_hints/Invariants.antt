use Rattle.std.proofs.Common.{◌≡◌, false}
use Rattle.trace_export.specs.Graph.{IsKeptGraph}
use Rattle.trace_export.proofs.graph.Graph.find_hints.Given as goal

abbrev pub invariant-loop-place : goal.invariant-loop-place
invariant-loop-place l = record {
  placed : l.self.placed ≡ l.fn.self.placed;
  reaching : l.self.reaching ≡ l.fn.self.reaching;
  graph : IsKeptGraph l.self;
  given_back : l.fn.self.hints.are_kept ≡ false → l.self.hints.are_kept ≡ false;
}
