use Rattle.std.proofs.Common.{◌≤◌, ◌∷◌, ap, ◌∙◌, subst, arith}
use Rattle.tenant_ledger.proofs.Words.{Contents, history_of, history_in, id_of, tree_clock}
use Rattle.trace_types.specs.clock.Size.{inner_of_id}
use Rattle.trace_types.specs.tenant.Rows.{spawn_count}
use Rattle.tenant_ledger.specs.Upcoming.{Upcoming}
use Rattle.tenant_ledger.proofs.size.Counts.{id_is_within}
use Rattle.tenant_ledger.proofs.prepared.Prepared.id.Goals as goal

pub returns-clause-size : goal.returns-clause-size
returns-clause-size g c =
    let event = c.self.inside.draft in
    let id = c.id_after.ensures ∙ ap (λ (book : Contents). id_of tree_clock (event.row ∷ history_in book) event.row.task) c.deref.ensures in
    subst (λ (upcoming : Upcoming). inner_of_id (g.S.Id.KeptId.id c.id_after.result.now) ≤ spawn_count (upcoming.row ∷ history_of upcoming.tenant.rows)) c.self.view_is
    (omega (arith, ap inner_of_id id, id_is_within (event.row ∷ history_in c.self.inside.book.value) event.row.task))
