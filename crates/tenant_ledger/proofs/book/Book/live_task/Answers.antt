use Rattle.std.proofs.Common.{◌≡◌, true, refl, inl, inr, subst}
use Rattle.tenant_ledger.proofs.Words.{is_ended, history_in}
use Rattle.tenant_ledger.proofs.keeping.Known.{IsAt, is_at, task_kept}
use Rattle.tenant_ledger.proofs.book.Book.live_task.Goals as goal

pub returns-in-Ended : goal.returns-in-Ended
returns-in-Ended g c =
    let found = c.in_ok-task.ensures.ok in
    let at = IsAt (history_in c.args.self.now) c.args.name.now in
    let ended : is_ended (history_in c.args.self.now) c.args.name.now ≡ true = elim c.in-Ended.is [
      | inl is ↦ (subst at is (is_at c.args.self.now c.requires c.args.name.now found)).0
      | inr is ↦ (subst at is (is_at c.args.self.now c.requires c.args.name.now found)).0
    ] in
    record { task = tt; decides = λ others. rw ((task_kept c.args.self.now c.requires c.args.name.now found).0, ended) refl }
