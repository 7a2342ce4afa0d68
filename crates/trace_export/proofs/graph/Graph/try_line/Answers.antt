use Rattle.trace_export.proofs.Refusing.{nothing_is_faulty}
use Rattle.trace_export.proofs.graph.Graph.try_line.Goals as goal

pub returns-in-Err-clause-added : goal.returns-in-Err-clause-added
returns-in-Err-clause-added c =
    let told = c.in-Err.ensures c.args.line.now c.requires.short c.in_ok-json.ensures in
    (told.0, nothing_is_faulty c.in-Err.reason c.args.self.now.placed.items c.args.line.now told.1)
