use Rattle.trace_export.proofs.Listed.{listed_more}
use Rattle.trace_export.proofs.graph.Graph.put.Goals as goal

pub put_row-requires-clause-graph : goal.put_row-requires-clause-graph
put_row-requires-clause-graph c =
    listed_more c.args.self.now c.requires.graph c.args.placed c.requires.preds c.requires.few c.requires.ordered c.push_reserved.new.self c.push_reserved.ensures.items
