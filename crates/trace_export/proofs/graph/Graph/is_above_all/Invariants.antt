use Rattle.std.proofs.Common.{All, take}
use Rattle.event_tree.specs.Comparison.{IsBelow}
use Rattle.trace_export.specs.Edges.{listed_tree}
use Rattle.trace_export.proofs.graph.Graph.is_above_all.Given as goal

abbrev pub invariant-loop-pred : goal.invariant-loop-pred
invariant-loop-pred l = All (λ pred. IsBelow (listed_tree l.self.placed.items pred) l.tree) (take l.pred-index l.preds)
