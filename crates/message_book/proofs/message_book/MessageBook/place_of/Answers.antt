use Rattle.std.proofs.Common.{◌≡◌, Some, None, option_map, sym, ap, subst, ◌∙◌}
use Rattle.std.proofs.lemmas.Map.Made.{lookup_key_same}
use Rattle.trace_types.proofs.Names.{is_same_iff}
use Rattle.message_book.specs.Book.{Roomy, entry_of}
use Rattle.message_book.specs.Chains.{sent_in}
use Rattle.message_book.specs.Receiving.{IsAt}
use Rattle.message_book.proofs.Messages.{found_in, is_at}
use Rattle.message_book.proofs.message_book.MessageBook.place_of.Goals as goal

pub returns-in-Some-clause-some : goal.returns-in-Some-clause-some
returns-in-Some-clause-some g c =
    let there = is_at c.self.inside.others.later c.self.inside.messages.entries c.args.place (sym c.in-Some.ensures.entry) in
    let same = (is_same_iff c.in-Some.there.now c.args.name.now).0 (sym c.if-eq.ensures) in
    subst (λ (roomy : Roomy _). IsAt roomy.book.messages c.args.name.now c.args.place) c.self.view_is (there ∙ ap Some same)

pub returns-in-Some-get_full-clause-some : goal.returns-in-Some-get_full-clause-some
returns-in-Some-get_full-clause-some g c =
    let entries = c.self.inside.messages.entries in
    let there = is_at c.self.inside.others.later entries c.in-Some-get_full.place c.in-Some-get_full.ensures.entry in
    let same = lookup_key_same is_same_iff c.args.name.now entries c.in-Some-get_full.field-0-1.now (sym c.in-Some-get_full.ensures.key) in
    subst (λ (roomy : Roomy _). IsAt roomy.book.messages c.args.name.now c.in-Some-get_full.place) c.self.view_is (there ∙ ap Some (sym same))

pub returns-in-None-clause-none : goal.returns-in-None-clause-none
returns-in-None-clause-none g c =
    let later = c.self.inside.others.later in
    let absent = ap (option_map (sent_in later)) c.in-None.ensures.value ∙ found_in later c.self.inside.messages.entries c.args.name.now in
    subst (λ (roomy : Roomy _). entry_of roomy.book.messages c.args.name.now ≡ None) c.self.view_is (sym absent)
