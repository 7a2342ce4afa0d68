use Rattle.std.proofs.Common.{ap, ◌∙◌, arith}
use Rattle.tenant_ledger.proofs.Words.{Tenant, history_of, id_after, tenant_of}
use Rattle.trace_types.specs.clock.Size.{inner_of_id}
use Rattle.tenant_ledger.proofs.size.Counts.{within_spawns}
use Rattle.tenant_ledger.proofs.ledger.Ledger.id.Goals as goal

pub returns-clause-size : goal.returns-clause-size
returns-clause-size g c =
    let id = c.in_ok-id.ensures.id ∙ ap (λ (tenant : Tenant). id_after (history_of tenant.rows) c.args.event) (ap tenant_of c.deref.ensures ∙ c.self.view_is) in
    omega (arith, ap inner_of_id id, (within_spawns c.args.self.now.rows c.args.event).id)
