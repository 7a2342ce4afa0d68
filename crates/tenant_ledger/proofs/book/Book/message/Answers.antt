use Rattle.std.proofs.Common.{Result, Ok, Err, OnErr, ap, ◌∙◌}
use Rattle.message_book.specs.Book.{entry_of}
use Rattle.tenant_ledger.proofs.Words.{Contents}
use Rattle.tenant_ledger.proofs.keeping.Messages.{told_as, told_as_none, was_sent}
use Rattle.tenant_ledger.proofs.book.Book.message.Goals as goal

-- a fact holds also where a call has failed
on_err : {A E P : Type 0} (result : Result A E) → P → OnErr result P
on_err (Ok value) is = tt
on_err (Err error) is = is

pub returns-in_err-receipts-in-Some-clause-sent : goal.returns-in_err-receipts-in-Some-clause-sent
returns-in_err-receipts-in-Some-clause-sent g c =
    let found = c.in-Some.ensures ∙ ap (λ (book : Contents). entry_of book.messages c.args.name.now) c.self.view_is in
    on_err c.from_residual.result (was_sent c.args.self.now c.requires c.args.name.now found)

pub returns-in_ok-receipts-in-Some-clause-found : goal.returns-in_ok-receipts-in-Some-clause-found
returns-in_ok-receipts-in-Some-clause-found g c =
    let found = c.in-Some.ensures ∙ ap (λ (book : Contents). entry_of book.messages c.args.name.now) c.self.view_is in
    told_as c.args.self.now c.requires c.args.name.now c.sent.result c.in_ok-receipts-in-Some.field-0 found c.sent.ensures c.in_ok-receipts-in-Some.ensures.events

pub returns-in-None-clause-found : goal.returns-in-None-clause-found
returns-in-None-clause-found g c =
    told_as_none c.args.self.now c.requires c.args.name.now (c.in-None.ensures ∙ ap (λ (book : Contents). entry_of book.messages c.args.name.now) c.self.view_is)
