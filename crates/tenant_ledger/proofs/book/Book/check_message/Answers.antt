use Rattle.std.proofs.Common.{◌≡◌, ℕ, ap, ◌∙◌}
use Rattle.message_book.specs.Book.{Book, refusal_of_send}
use Rattle.tenant_ledger.specs.Contents.{messages_in}
use Rattle.tenant_ledger.specs.Refusals.{refusals_of_sent}
use Rattle.tenant_ledger.proofs.Words.{history_in}
use Rattle.tenant_ledger.proofs.keeping.Messages.{not_refused, send_refused}
use Rattle.tenant_ledger.proofs.keeping.Refused.{decides_by_first}
use Rattle.tenant_ledger.proofs.book.Book.check_message.Goals as goal

pub returns-clause-message : goal.returns-clause-message
returns-clause-message g c =
    let messages : c.self.inside.messages.book ≡ messages_in c.args.self.now =
    (λ i. record { limit = c.self.invariant.9 i; messages = c.self.inside.messages.book.messages }) ∙ ap messages_in c.self.view_is in
    not_refused c.check_send.result (c.check_send.ensures ∙ ap (λ (book : Book ℕ). refusal_of_send book c.args.name.now) messages)

pub returns-clause-decides : goal.returns-clause-decides
returns-clause-decides g c =
    let book = c.args.self.now in
    let messages : c.self.inside.messages.book ≡ messages_in book =
    (λ i. record { limit = c.self.invariant.9 i; messages = c.self.inside.messages.book.messages }) ∙ ap messages_in c.self.view_is in
    decides_by_first (refusals_of_sent book.limits (history_in book) c.args.name.now) c.check_send.result
    (c.check_send.ensures ∙ ap (λ (m : Book ℕ). refusal_of_send m c.args.name.now) messages ∙ send_refused book c.requires c.args.name.now)
