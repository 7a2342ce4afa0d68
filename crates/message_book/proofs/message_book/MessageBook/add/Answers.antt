use Rattle.std.proofs.Common.{◌≡◌, None, sym, ap, subst, ◌∙◌}
use Rattle.message_book.specs.Book.{Roomy, refusal_of_send, with_message}
use Rattle.message_book.specs.Chains.{IsSound, book_of, seen_in}
use Rattle.message_book.proofs.Sound.{entries-sent, seen-sent, sound-sent}
use Rattle.message_book.proofs.message_book.MessageBook.add.Goals as goal

pub invariant_of-self-2 : goal.invariant_of-self-2
invariant_of-self-2 g c =
    let limit = c.self.inside.limit in
    let others = c.self.inside.others in
    let table = c.self.inside.messages in
    let can : refusal_of_send (book_of limit others.later table.entries) c.args.name ≡ None = ap (λ (roomy : Roomy _). refusal_of_send roomy.book c.args.name) c.self.view_is ∙ c.requires in
    subst (IsSound g.T.PartialEq.eq limit others) (sym (c.in_ok-insert.ensures.entries ∙ entries-sent limit others.later table c.args.name c.args.event can))
    (sound-sent g.T.PartialEq.eq limit others table.entries c.args.name c.args.event can c.self.invariant)

pub returns-clause-ok : goal.returns-clause-ok
returns-clause-ok g c =
    let limit = c.self.inside.limit in
    let later = c.self.inside.others.later in
    let table = c.self.inside.messages in
    let can : refusal_of_send (book_of limit later table.entries) c.args.name ≡ None = ap (λ (roomy : Roomy _). refusal_of_send roomy.book c.args.name) c.self.view_is ∙ c.requires in
    let messages = ap (seen_in later) (c.in_ok-insert.ensures.entries ∙ entries-sent limit later table c.args.name c.args.event can)
    ∙ seen-sent later table.entries c.args.name c.args.event
    ∙ ap (λ (roomy : Roomy _). with_message c.args.name c.args.event roomy.book.messages) c.self.view_is in
    λ i. record { limit = (c.self.view_is i).book.limit; messages = messages i }
