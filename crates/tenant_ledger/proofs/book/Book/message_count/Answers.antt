use Rattle.std.proofs.Common.{length, ap, ◌∙◌}
use Rattle.tenant_ledger.proofs.Words.{Contents}
use Rattle.tenant_ledger.proofs.keeping.Messages.{messages_counted}
use Rattle.tenant_ledger.proofs.book.Book.message_count.Goals as goal

pub returns : goal.returns
returns g c =
    c.message_count.ensures.count ∙ ap (λ (book : Contents). length book.messages) c.self.view_is ∙ messages_counted c.args.self.now c.requires
