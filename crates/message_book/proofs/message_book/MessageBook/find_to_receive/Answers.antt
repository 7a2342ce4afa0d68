use Rattle.std.proofs.Common.{◌≡◌, Some, None, option_map, sym, ap, subst, ◌∙◌}
use Rattle.std.proofs.lemmas.Map.Made.{lookup_key_same}
use Rattle.trace_types.specs.declared.code.Code.TheVariants.{NoMessage, AlreadyReceived}
use Rattle.trace_types.proofs.Names.{is_same_iff}
use Rattle.message_book.specs.Book.{Roomy, Sent, entry_of, refusal_of_receive}
use Rattle.message_book.specs.Chains.{book_of, sent_in}
use Rattle.message_book.specs.Receiving.{IsAt}
use Rattle.message_book.proofs.Chains.{receiver_is}
use Rattle.message_book.proofs.Messages.{found_in, is_at, refusal-absent, refusal-again, refusal-new}
use Rattle.message_book.proofs.message_book.MessageBook.find_to_receive.Goals as goal

pub returns-in-None-clause-code : goal.returns-in-None-clause-code
returns-in-None-clause-code g c =
    let later = c.self.inside.others.later in
    let entries = c.self.inside.messages.entries in
    let absent = ap (option_map (sent_in later)) c.in-None.ensures.value ∙ found_in later entries c.args.name.now in
    let refusal = refusal-absent g.T.PartialEq.eq (book_of c.self.inside.limit later entries) c.args.name.now c.args.task.now (sym absent) in
    sym (subst (λ (roomy : Roomy _). refusal_of_receive g.T.PartialEq.eq roomy.book c.args.name.now c.args.task.now ≡ Some NoMessage) c.self.view_is refusal)

pub returns-then-has_receiver-clause-code : goal.returns-then-has_receiver-clause-code
returns-then-has_receiver-clause-code g c =
    let same = g.T.PartialEq.eq in
    let later = c.self.inside.others.later in
    let entries = c.self.inside.messages.entries in
    let message = c.in-Some.message.now in
    let found = ap (option_map (sent_in later)) c.in-Some.ensures.value ∙ found_in later entries c.args.name.now in
    let had = receiver_is same c.self.inside.others.keys later entries c.in-Some.place c.args.task.now c.self.invariant.2 c.in-Some.ensures.entry in
    let refusal = refusal-again same (book_of c.self.inside.limit later entries) c.args.name.now c.args.task.now (sent_in later message) (sym found) (had ∙ sym c.has_receiver.ensures ∙ c.if-has_receiver.true) in
    sym (subst (λ (roomy : Roomy _). refusal_of_receive same roomy.book c.args.name.now c.args.task.now ≡ Some AlreadyReceived) c.self.view_is refusal)

pub returns-else-has_receiver-clause-code : goal.returns-else-has_receiver-clause-code
returns-else-has_receiver-clause-code g c =
    let same = g.T.PartialEq.eq in
    let later = c.self.inside.others.later in
    let entries = c.self.inside.messages.entries in
    let message = c.in-Some.message.now in
    let found = ap (option_map (sent_in later)) c.in-Some.ensures.value ∙ found_in later entries c.args.name.now in
    let had = receiver_is same c.self.inside.others.keys later entries c.in-Some.place c.args.task.now c.self.invariant.2 c.in-Some.ensures.entry in
    let refusal = refusal-new same (book_of c.self.inside.limit later entries) c.args.name.now c.args.task.now (sent_in later message) (sym found) (had ∙ sym c.has_receiver.ensures ∙ c.if-has_receiver.false) in
    sym (subst (λ (roomy : Roomy _). refusal_of_receive same roomy.book c.args.name.now c.args.task.now ≡ None) c.self.view_is refusal)

pub returns-else-has_receiver-clause-sent : goal.returns-else-has_receiver-clause-sent
returns-else-has_receiver-clause-sent g c =
    let later = c.self.inside.others.later in
    let found = ap (option_map (sent_in later)) c.in-Some.ensures.value ∙ found_in later c.self.inside.messages.entries c.args.name.now in
    subst (λ (roomy : Roomy _). option_map (λ (entry : Sent _). entry.sent) (entry_of roomy.book.messages c.args.name.now) ≡ Some c.in-Some.message.now.sent) c.self.view_is
    (ap (option_map (λ (entry : Sent _). entry.sent)) (sym found)) ∙ ap Some (sym c.from.ensures)

pub returns-else-has_receiver-clause-place : goal.returns-else-has_receiver-clause-place
returns-else-has_receiver-clause-place g c =
    let entries = c.self.inside.messages.entries in
    let there = is_at c.self.inside.others.later entries c.in-Some.place c.in-Some.ensures.entry in
    let same = lookup_key_same is_same_iff c.args.name.now entries c.in-Some.field-0-1.now (sym c.in-Some.ensures.key) in
    subst (λ (roomy : Roomy _). IsAt roomy.book.messages c.args.name.now c.in-Some.place) c.self.view_is (there ∙ ap Some (sym same))
