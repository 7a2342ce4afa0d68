use Rattle.std.proofs.Common.{IsTrue, subst}
use Rattle.trace_types.specs.tenant.Limits.{are_limits}
use Rattle.tenant_ledger.proofs.Words.{Contents, Tenant}
use Rattle.tenant_ledger.specs.Size.{HaveShortParts}
use Rattle.tenant_ledger.proofs.ledger.Ledger.size.Goals as goal

pub returns-clause-parts : goal.returns-clause-parts
returns-clause-parts g c =
    let book = c.self.inside.book.value in
    let ranges = subst (λ (book : Contents). IsTrue (are_limits book.limits.events book.limits.tasks book.limits.messages)) c.deref.ensures c.limits.ensures.ranges in
    subst (λ (tenant : Tenant). HaveShortParts tenant.rows) c.self.view_is (c.text_size.ensures.parts book.limits book.rows ranges c.self.invariant.legal)
