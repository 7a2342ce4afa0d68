use Rattle.std.proofs.Common.{Some, option_map, sym, ap, ◌∙◌}
use Rattle.message_book.specs.Book.{Roomy, entry_of}
use Rattle.message_book.specs.Chains.{is_chained, sent_in}
use Rattle.message_book.proofs.Chains.{chained_found}
use Rattle.message_book.proofs.Messages.{found_in}
use Rattle.message_book.proofs.message_book.MessageBook.find.Goals as goal

pub of-requires : goal.of-requires
of-requires g c =
    ap (λ later. is_chained g.T.PartialEq.eq later c.in-Some.message.now.received) c.as_slice.ensures
    ∙ chained_found g.T.PartialEq.eq c.self.inside.others.later c.self.inside.messages.entries c.args.name.now c.self.invariant.1 (sym c.in-Some.ensures.value)

pub returns-in-Some : goal.returns-in-Some
returns-in-Some g c =
    ap Some (c.of.ensures ∙ ap (λ later. sent_in later c.in-Some.message.now) c.as_slice.ensures)
    ∙ ap (option_map (sent_in c.self.inside.others.later)) c.in-Some.ensures.value
    ∙ found_in c.self.inside.others.later c.self.inside.messages.entries c.args.name.now
    ∙ ap (λ (roomy : Roomy _). entry_of roomy.book.messages c.args.name.now) c.self.view_is

pub returns-in-None : goal.returns-in-None
returns-in-None g c =
    ap (option_map (sent_in c.self.inside.others.later)) c.in-None.ensures.value
    ∙ found_in c.self.inside.others.later c.self.inside.messages.entries c.args.name.now
    ∙ ap (λ (roomy : Roomy _). entry_of roomy.book.messages c.args.name.now) c.self.view_is
