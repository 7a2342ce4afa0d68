use Rattle.std.proofs.Common.{ap, length, subst, sym, ◌∙◌}
use Rattle.std.proofs.lemmas.List.{length-map}
use Rattle.std.specs.List.{IsDistinct}
use Rattle.trace_types.specs.text.Name.{is_same}
use Rattle.message_book.specs.Book.{AreNamedOnce, Roomy}
use Rattle.message_book.proofs.Messages.{names_seen}
use Rattle.message_book.proofs.message_book.MessageBook.message_count.Goals as goal

pub returns-clause-count : goal.returns-clause-count
returns-clause-count g c =
    c.len.ensures.len ∙ sym (length-map c.self.inside.messages.entries _) ∙ ap (λ (roomy : Roomy _). length roomy.book.messages) c.self.view_is

pub returns-clause-once : goal.returns-clause-once
returns-clause-once g c =
    let names = names_seen c.self.inside.others.later c.self.inside.messages.entries in
    subst (λ (roomy : Roomy _). AreNamedOnce roomy.book.messages) c.self.view_is (subst (IsDistinct is_same) (sym names) c.len.ensures.unique)
