use Rattle.std.proofs.Common.{◌≤◌, ◌∷◌, suc, length, ap, subst, arith}
use Rattle.tenant_ledger.proofs.Words.{history_of, history_in}
use Rattle.trace_types.specs.clock.Size.{inner_of_tree}
use Rattle.trace_types.specs.tenant.Rows.{spawn_count}
use Rattle.tenant_ledger.specs.Upcoming.{Upcoming}
use Rattle.tenant_ledger.proofs.keeping.Kept.{ready_tree}
use Rattle.tenant_ledger.proofs.size.Counts.{tree_is_within}
use Rattle.tenant_ledger.proofs.prepared.Prepared.tree.Goals as goal

pub returns-clause-size : goal.returns-clause-size
returns-clause-size g c =
    let book = c.self.inside.book.value in
    let event = c.self.inside.draft in
    let history = event.row ∷ history_in book in
    subst (λ (upcoming : Upcoming). inner_of_tree (g.S.Kept.Meant.tree c.tree.result.now) ≤ spawn_count (upcoming.row ∷ history_of upcoming.tenant.rows)) c.self.view_is
    (omega (arith, ap inner_of_tree c.tree.ensures, ap inner_of_tree (ready_tree book event c.self.invariant), tree_is_within history (suc (length book.rows))))
