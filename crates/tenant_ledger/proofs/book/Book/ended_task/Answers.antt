use Rattle.std.proofs.Common.{refl, subst}
use Rattle.tenant_ledger.proofs.Words.{history_in}
use Rattle.tenant_ledger.proofs.keeping.Known.{IsAt, is_at, task_kept}
use Rattle.tenant_ledger.proofs.book.Book.ended_task.Goals as goal

pub returns-in-Joined-clause-decides : goal.returns-in-Joined-clause-decides
returns-in-Joined-clause-decides g c =
    let found = c.in_ok-task.ensures.ok in
    let at = subst (IsAt (history_in c.args.self.now) c.args.name.now) c.in-Joined.is (is_at c.args.self.now c.requires c.args.name.now found) in
    λ others. rw ((task_kept c.args.self.now c.requires c.args.name.now found).0, at.0, at.1) refl
