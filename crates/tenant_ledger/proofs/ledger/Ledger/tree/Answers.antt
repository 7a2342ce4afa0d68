use Rattle.std.proofs.Common.{ap, ◌∙◌, arith}
use Rattle.tenant_ledger.proofs.Words.{Tenant, history_of, tenant_of, tree_clock, tree_of}
use Rattle.trace_types.specs.clock.Size.{inner_of_tree}
use Rattle.tenant_ledger.proofs.keeping.Told.{stamp_knows}
use Rattle.tenant_ledger.proofs.size.Counts.{within_spawns}
use Rattle.tenant_ledger.proofs.ledger.Ledger.tree.Goals as goal

pub returns-clause-size : goal.returns-clause-size
returns-clause-size g c =
    let rows = c.args.self.now.rows in
    let tree = c.in_ok-tree.ensures.tree ∙ ap (λ (tenant : Tenant). tree_of tree_clock (history_of tenant.rows) c.args.event) (ap tenant_of c.deref.ensures ∙ c.self.view_is) in
    omega (arith, ap inner_of_tree tree, ap inner_of_tree (stamp_knows (history_of rows) c.args.event), (within_spawns rows c.args.event).tree)
