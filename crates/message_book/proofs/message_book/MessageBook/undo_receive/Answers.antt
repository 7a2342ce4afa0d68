use Rattle.std.proofs.Common.{◌≡◌, ◌-◌, suc, Some, None, option_map, refl, ap, subst, sym, ◌∙◌, arith}
use Rattle.std.proofs.lemmas.Bool.{false≢true}
use Rattle.std.proofs.lemmas.Map.Made.{lookup_key_same}
use Rattle.trace_types.proofs.Names.{is_same_iff}
use Rattle.message_book.specs.Book.{Roomy, entry_of, entry_without_last_receipt}
use Rattle.message_book.specs.Chains.{IsSound, book_of, sent_in}
use Rattle.message_book.specs.Receiving.{IsAt}
use Rattle.message_book.proofs.Messages.{found_in, is_at, received_is_not_absent}
use Rattle.message_book.proofs.Sound.{Forgotten, Found, book_with, is_unreceived, newest_within, seen-less, sent-less, sent-none, sound-less, sound-none, without_first, without_later}
use Rattle.message_book.proofs.message_book.MessageBook.undo_receive.Goals as goal

pub returns-in_default : goal.returns-in_default
returns-in_default g c =
    let later = c.self.inside.others.later in
    let absent = ap (option_map (sent_in later)) c.in_default.ensures.value ∙ found_in later c.self.inside.messages.entries c.args.name.now in
    let missing = subst (λ (roomy : Roomy _). entry_of roomy.book.messages c.args.name.now ≡ None) c.self.view_is (sym absent) in
    absurd (received_is_not_absent c.args.self.now.book.messages c.args.name.now c.requires missing)

pub returns-in_default-received : goal.returns-in_default-received
returns-in_default-received g c =
    let same = g.T.PartialEq.eq in
    let limit = c.self.inside.limit in
    let others = c.self.inside.others in
    let entries = c.self.inside.messages.entries in
    let name = c.args.name.now in
    let place = c.in-Some.place in
    let message = c.in-Some.message.now in
    let is_name = lookup_key_same is_same_iff name entries c.in-Some.field-0-1.now (sym c.in-Some.ensures.key) in
    let there = c.in-Some.ensures.entry ∙ ap (λ key. Some (key, message)) (sym is_name) in
    let at = subst (λ (roomy : Roomy _). IsAt roomy.book.messages name place) c.self.view_is (is_at others.later entries place there) in
    let found : Found same limit others entries place c.args.self.now.book name name message =
    record { sound = c.self.invariant; view = ap (λ (roomy : Roomy _). roomy.book) c.self.view_is; there = there; value = sym c.in-Some.ensures.value; at = at } in
    absurd (false≢true (sym (is_unreceived same limit others entries place found c.in_default-received.is) ∙ c.requires))

pub invariant_of-self : goal.invariant_of-self
invariant_of-self g c =
    let same = g.T.PartialEq.eq in
    let limit = c.self.inside.limit in
    let others = c.self.inside.others in
    let entries = c.self.inside.messages.entries in
    let name = c.args.name.now in
    let place = c.in-Some.place in
    let message = c.in-Some.message.now in
    let is_name = lookup_key_same is_same_iff name entries c.in-Some.field-0-1.now (sym c.in-Some.ensures.key) in
    let there = c.in-Some.ensures.entry ∙ ap (λ key. Some (key, message)) (sym is_name) in
    subst (IsSound same limit others) (sym (c.set_received.ensures.entries name message there))
    (sound-none same limit others entries place c.self.invariant there c.in-Some-received.first c.in-Some-received.is c.if-first-eq0.true)

pub returns-then-first-eq0-clause-book : goal.returns-then-first-eq0-clause-book
returns-then-first-eq0-clause-book g c =
    let same = g.T.PartialEq.eq in
    let limit = c.self.inside.limit in
    let others = c.self.inside.others in
    let entries = c.self.inside.messages.entries in
    let name = c.args.name.now in
    let place = c.in-Some.place in
    let message = c.in-Some.message.now in
    let is_name = lookup_key_same is_same_iff name entries c.in-Some.field-0-1.now (sym c.in-Some.ensures.key) in
    let there = c.in-Some.ensures.entry ∙ ap (λ key. Some (key, message)) (sym is_name) in
    let at = subst (λ (roomy : Roomy _). IsAt roomy.book.messages name place) c.self.view_is (is_at others.later entries place there) in
    let found : Found same limit others entries place c.args.self.now.book name name message =
    record { sound = c.self.invariant; view = ap (λ (roomy : Roomy _). roomy.book) c.self.view_is; there = there; value = sym c.in-Some.ensures.value; at = at } in
    let first = c.in-Some-received.first in
    let some = c.in-Some-received.is in
    let written = without_first same limit others entries place c.self.invariant there first some c.if-first-eq0.true in
    let sent = sent-none same limit others entries place c.self.invariant there first some c.if-first-eq0.true in
    ap (book_of limit others.later) (c.set_received.ensures.entries name message there)
    ∙ book_with same limit others entries place found entry_without_last_receipt others.later written c.set_received.ensures.unique refl sent

pub forget-newest-requires : goal.forget-newest-requires
forget-newest-requires g c =
    let same = g.T.PartialEq.eq in
    let limit = c.self.inside.limit in
    let others = c.self.inside.others in
    let entries = c.self.inside.messages.entries in
    let name = c.args.name.now in
    let place = c.in-Some.place in
    let message = c.in-Some.message.now in
    let is_name = lookup_key_same is_same_iff name entries c.in-Some.field-0-1.now (sym c.in-Some.ensures.key) in
    let there = c.in-Some.ensures.entry ∙ ap (λ key. Some (key, message)) (sym is_name) in
    let first = c.in-Some-received.first in
    let many : first.others ≡ suc (first.others - 1) = omega (arith, c.if-first-eq0.false) in
    newest_within same limit others entries place c.self.invariant there first c.in-Some-received.is g.met.T.Eq.laws many

pub invariant_of-self-2 : goal.invariant_of-self-2
invariant_of-self-2 g c =
    let same = g.T.PartialEq.eq in
    let limit = c.self.inside.limit in
    let others = c.self.inside.others in
    let entries = c.self.inside.messages.entries in
    let name = c.args.name.now in
    let place = c.in-Some.place in
    let message = c.in-Some.message.now in
    let is_name = lookup_key_same is_same_iff name entries c.in-Some.field-0-1.now (sym c.in-Some.ensures.key) in
    let there = c.in-Some.ensures.entry ∙ ap (λ key. Some (key, message)) (sym is_name) in
    let first = c.in-Some-received.first in
    let some = c.in-Some-received.is in
    let many : first.others ≡ suc (first.others - 1) = omega (arith, c.if-first-eq0.false) in
    let told = c.forget-newest.ensures in
    let forgotten : Forgotten same limit others entries place c.self.invariant there first some g.met.T.Eq.laws many c.forget-newest.result c.forget-newest.new.self =
    record { later = told.later; before = told.before; keys = told.keys } in
    subst (IsSound same limit c.forget-newest.new.self) (sym (c.set_received-2.ensures.entries name message there))
    (sound-less same limit others entries place c.self.invariant there first some g.met.T.Eq.laws many c.forget-newest.result forgotten)

pub returns-clause-book : goal.returns-clause-book
returns-clause-book g c =
    let same = g.T.PartialEq.eq in
    let limit = c.self.inside.limit in
    let others = c.self.inside.others in
    let entries = c.self.inside.messages.entries in
    let name = c.args.name.now in
    let place = c.in-Some.place in
    let message = c.in-Some.message.now in
    let is_name = lookup_key_same is_same_iff name entries c.in-Some.field-0-1.now (sym c.in-Some.ensures.key) in
    let there = c.in-Some.ensures.entry ∙ ap (λ key. Some (key, message)) (sym is_name) in
    let at = subst (λ (roomy : Roomy _). IsAt roomy.book.messages name place) c.self.view_is (is_at others.later entries place there) in
    let found : Found same limit others entries place c.args.self.now.book name name message =
    record { sound = c.self.invariant; view = ap (λ (roomy : Roomy _). roomy.book) c.self.view_is; there = there; value = sym c.in-Some.ensures.value; at = at } in
    let first = c.in-Some-received.first in
    let some = c.in-Some-received.is in
    let many : first.others ≡ suc (first.others - 1) = omega (arith, c.if-first-eq0.false) in
    let told = c.forget-newest.ensures in
    let later = c.forget-newest.new.self.later in
    let forgotten : Forgotten same limit others entries place c.self.invariant there first some g.met.T.Eq.laws many c.forget-newest.result c.forget-newest.new.self =
    record { later = told.later; before = told.before; keys = told.keys } in
    let written = without_later same limit others entries place c.self.invariant there first some g.met.T.Eq.laws many c.forget-newest.result in
    let seen = seen-less same limit others entries place c.self.invariant there first some g.met.T.Eq.laws many c.forget-newest.result forgotten in
    let sent = sent-less same limit others entries place c.self.invariant there first some g.met.T.Eq.laws many c.forget-newest.result forgotten in
    ap (book_of limit later) (c.set_received-2.ensures.entries name message there)
    ∙ book_with same limit others entries place found entry_without_last_receipt later written c.set_received-2.ensures.unique seen sent
