use Rattle.std.proofs.Common.{◌≡◌, ℕ, nat_eq, ap, ◌∙◌}
use Rattle.message_book.specs.Book.{Book, refusal_of_receive}
use Rattle.tenant_ledger.specs.Contents.{messages_in}
use Rattle.tenant_ledger.specs.Refusals.{refusals_of_received}
use Rattle.tenant_ledger.proofs.Words.{history_in}
use Rattle.tenant_ledger.proofs.keeping.Messages.{found_to_receive, receipt_refused}
use Rattle.tenant_ledger.proofs.keeping.Refused.{decides_by_first}
use Rattle.tenant_ledger.proofs.book.Book.sent_message.Goals as goal

pub returns-clause-message : goal.returns-clause-message
returns-clause-message g c =
    let messages : c.self.inside.messages.book ≡ messages_in c.args.self.now =
    (λ i. record { limit = c.self.invariant.9 i; messages = c.self.inside.messages.book.messages }) ∙ ap messages_in c.self.view_is in
    found_to_receive c.self.inside.messages.book (messages_in c.args.self.now) messages c.args.name.now c.args.acting.now.start c.find_to_receive.result
    c.find_to_receive.ensures.code c.find_to_receive.ensures.sent

pub returns-clause-decides : goal.returns-clause-decides
returns-clause-decides g c =
    let book = c.args.self.now in
    let messages : c.self.inside.messages.book ≡ messages_in book =
    (λ i. record { limit = c.self.invariant.9 i; messages = c.self.inside.messages.book.messages }) ∙ ap messages_in c.self.view_is in
    decides_by_first (refusals_of_received (history_in book) c.args.task.now c.args.name.now) c.find_to_receive.result
    (c.find_to_receive.ensures.code ∙ ap (λ (m : Book ℕ). refusal_of_receive nat_eq m c.args.name.now c.args.acting.now.start) messages
    ∙ receipt_refused book c.requires.book c.args.task.now c.args.name.now c.requires.acting)
