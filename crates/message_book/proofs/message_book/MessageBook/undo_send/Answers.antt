use Rattle.std.proofs.Common.{sym, ap, subst, ◌∙◌}
use Rattle.message_book.specs.Book.{LastIsUnreceived, Roomy}
use Rattle.message_book.specs.Chains.{IsSound, seen_in}
use Rattle.message_book.proofs.Sound.{sound-popped}
use Rattle.message_book.proofs.message_book.MessageBook.undo_send.Goals as goal

pub invariant_of-self : goal.invariant_of-self
invariant_of-self g c =
    let same = g.T.PartialEq.eq in
    let limit = c.self.inside.limit in
    let others = c.self.inside.others in
    let seen = ap (λ (roomy : Roomy _). roomy.book.messages) (sym c.self.view_is) ∙ ap (seen_in others.later) c.pop.ensures.entries in
    sound-popped same limit others c.pop.new.self.entries c.pop.result (subst LastIsUnreceived seen c.requires) (subst (IsSound same limit others) c.pop.ensures.entries c.self.invariant)
