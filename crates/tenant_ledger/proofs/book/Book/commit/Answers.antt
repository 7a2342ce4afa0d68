use Rattle.std.proofs.Common.{◌≡◌, subst, sym, ◌∙◌}
use Rattle.tenant_ledger.specs.Adding.{with_event}
use Rattle.tenant_ledger.specs.Contents.{Contents}
use Rattle.tenant_ledger.proofs.book.Book.commit.Goals as goal

pub returns-clause-book : goal.returns-clause-book
returns-clause-book g c =
    subst (λ (book : Contents). book ≡ record (with_event c.args.draft c.args.self.now) { room = book.room }) (sym (c.retire_at-2.ensures ∙ c.retire_at.ensures)) c.add-event.ensures.book
