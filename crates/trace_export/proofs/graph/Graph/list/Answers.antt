use Rattle.std.proofs.lemmas.Result.{on_ok_weaker}
use Rattle.trace_export.proofs.WholeTenants.{tenant_listed}
use Rattle.trace_export.proofs.graph.Graph.list.Goals as goal

pub returns-clause-graph : goal.returns-clause-graph
returns-clause-graph c =
    on_ok_weaker c.place_all.result (λ is. tenant_listed c.args.self.now c.requires.graph c.requires.none c.args.ledger.limits c.args.ledger.rows c.rows.ensures.legal c.requires.few c.place_all.new.placed is) c.place_all.ensures
