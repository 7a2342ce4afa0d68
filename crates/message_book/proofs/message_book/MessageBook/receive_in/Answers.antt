use Rattle.std.proofs.Common.{◌≡◌, ◌||◌, ◌<◌, ap, refl, subst, sym, ◌∙◌}
use Rattle.std.proofs.lemmas.Bool.{false≢true}
use Rattle.std.proofs.lemmas.Result.{err_from_is_err_and}
use Rattle.std.specs.Result.{result_err}
use Rattle.trace_types.specs.declared.code.Code.TheVariants.{AlreadyReceived}
use Rattle.message_book.specs.Book.{Roomy, entry_with_receipt}
use Rattle.message_book.specs.Chains.{IsSound, book_of, has_key, is_receiver}
use Rattle.message_book.specs.Receiving.{Receives}
use Rattle.message_book.proofs.Messages.{receives-ok, receives-refused}
use Rattle.message_book.proofs.Sound.{Added, Found, book_with, few_enough, is_again, is_new, is_new_later, refused-later, refused-room, seen-later, sent-first, sent-later, sound-first, sound-later, with_first, with_later}
use Rattle.message_book.proofs.message_book.MessageBook.receive_in.Goals as goal

pub invariant_of-self : goal.invariant_of-self
invariant_of-self g c =
    let same = g.T.PartialEq.eq in
    let limit = c.self.inside.limit in
    let others = c.self.inside.others in
    let entries = c.self.inside.messages.entries in
    let there = sym c.in-Some.ensures.entry in
    subst (IsSound same limit others) (sym (c.set_received.ensures.entries c.in-Some.field-0-0.now c.in-Some.message.now there))
    (sound-first same limit others entries c.args.place c.self.invariant there c.in-None.is c.args.task c.args.event)

pub returns-then-eq-clause-received : goal.returns-then-eq-clause-received
returns-then-eq-clause-received g c = λ name at.
    let same = g.T.PartialEq.eq in
    let others = c.self.inside.others in
    let entries = c.self.inside.messages.entries in
    let book = c.args.self.now.book in
    let found : Found same c.self.inside.limit others entries c.args.place book c.in-Some.field-0-0.now name c.in-Some.message.now =
    record { sound = c.self.invariant; view = ap (λ (roomy : Roomy _). roomy.book) c.self.view_is; there = sym c.in-Some.ensures.entry; value = c.in-Some.ensures.value; at = at } in
    let had = ap (λ received. is_receiver same others.keys c.args.place received c.args.task) c.in-Some-received.is ∙ ap (λ is. is || has_key same others.keys (c.args.task, c.args.place)) (sym c.if-eq.ensures) in
    receives-refused same name c.args.task c.args.event book book AlreadyReceived (is_again same c.self.inside.limit others entries c.args.place found c.args.task had) refl

pub returns-then-eq-clause-room : goal.returns-then-eq-clause-room
returns-then-eq-clause-room g c = λ name at some.
    let same = g.T.PartialEq.eq in
    let others = c.self.inside.others in
    let entries = c.self.inside.messages.entries in
    let book = c.args.self.now.book in
    let found : Found same c.self.inside.limit others entries c.args.place book c.in-Some.field-0-0.now name c.in-Some.message.now =
    record { sound = c.self.invariant; view = ap (λ (roomy : Roomy _). roomy.book) c.self.view_is; there = sym c.in-Some.ensures.entry; value = c.in-Some.ensures.value; at = at } in
    let had = ap (λ received. is_receiver same others.keys c.args.place received c.args.task) c.in-Some-received.is ∙ ap (λ is. is || has_key same others.keys (c.args.task, c.args.place)) (sym c.if-eq.ensures) in
    sym (is_again same c.self.inside.limit others entries c.args.place found c.args.task had)

pub returns-in_err-newest-in-Some-received-clause-received : goal.returns-in_err-newest-in-Some-received-clause-received
returns-in_err-newest-in-Some-received-clause-received g c = λ name at.
    let same = g.T.PartialEq.eq in
    let limit = c.self.inside.limit in
    let others = c.self.inside.others in
    let entries = c.self.inside.messages.entries in
    let book = c.args.self.now.book in
    let key = c.in-Some.field-0-0.now in
    let message = c.in-Some.message.now in
    let there = sym c.in-Some.ensures.entry in
    let found : Found same limit others entries c.args.place book key name message =
    record { sound = c.self.invariant; view = ap (λ (roomy : Roomy _). roomy.book) c.self.view_is; there = there; value = c.in-Some.ensures.value; at = at } in
    let after = book_of limit c.add.new.self.later entries in
    let stays : after ≡ book = ap (λ later. book_of limit later entries) c.in_err-newest-in-Some-received.ensures.err.0 ∙ ap (λ (roomy : Roomy _). roomy.book) c.self.view_is in
    let told = err_from_is_err_and c.from_residual.result c.from_residual.ensures.1 in
    let code = told.2 ∙ c.in_err-newest-in-Some-received.ensures.code in
    subst (Receives same name c.args.task c.args.event book after) (sym told.1)
    (refused-later same limit others entries c.args.place found c.in-Some-received.first c.in-Some-received.is c.args.task (sym c.if-eq.ensures) c.args.event after told.0 code stays)

pub returns-in_err-newest-in-Some-received-clause-room : goal.returns-in_err-newest-in-Some-received-clause-room
returns-in_err-newest-in-Some-received-clause-room g c = λ name at some.
    let same = g.T.PartialEq.eq in
    let limit = c.self.inside.limit in
    let others = c.self.inside.others in
    let entries = c.self.inside.messages.entries in
    let book = c.args.self.now.book in
    let key = c.in-Some.field-0-0.now in
    let message = c.in-Some.message.now in
    let there = sym c.in-Some.ensures.entry in
    let found : Found same limit others entries c.args.place book key name message =
    record { sound = c.self.invariant; view = ap (λ (roomy : Roomy _). roomy.book) c.self.view_is; there = there; value = c.in-Some.ensures.value; at = at } in
    let room : 0 < others.room = subst (λ (roomy : Roomy _). 0 < roomy.room.receipts) (sym c.self.view_is) some in
    let told = err_from_is_err_and c.from_residual.result c.from_residual.ensures.1 in
    let code = told.2 ∙ c.in_err-newest-in-Some-received.ensures.code in
    ap result_err told.1
    ∙ refused-room same limit others entries c.args.place found c.in-Some-received.first c.in-Some-received.is c.args.task (sym c.if-eq.ensures) told.0 code
    (λ new. false≢true (c.in_err-newest-in-Some-received.ensures.room room new))

pub overflow_add-others : goal.overflow_add-others
overflow_add-others g c =
    let there = sym c.in-Some.ensures.entry in
    let newest = c.in_ok-newest-in-Some-received.newest in
    let told = c.in_ok-newest-in-Some-received.ensures in
    let added : Added g.T.PartialEq.eq c.self.inside.limit c.self.inside.others c.self.inside.messages.entries c.args.place c.self.invariant there c.in-Some-received.first c.in-Some-received.is
    c.args.task c.args.event newest c.add.new.self = record { new = told.allowed; last = told.newest; later = told.later; keys = told.keys } in
    record {
      fits = few_enough g.T.PartialEq.eq c.self.inside.limit c.self.inside.others c.self.inside.messages.entries c.args.place c.self.invariant there c.in-Some-received.first
          c.in-Some-received.is c.args.task c.args.event newest added told.fits;
    }

pub invariant_of-self-in-Some-received : goal.invariant_of-self-in-Some-received
invariant_of-self-in-Some-received g c =
    let same = g.T.PartialEq.eq in
    let limit = c.self.inside.limit in
    let others = c.self.inside.others in
    let entries = c.self.inside.messages.entries in
    let there = sym c.in-Some.ensures.entry in
    let newest = c.in_ok-newest-in-Some-received.newest in
    let told = c.in_ok-newest-in-Some-received.ensures in
    let added : Added same limit others entries c.args.place c.self.invariant there c.in-Some-received.first c.in-Some-received.is c.args.task c.args.event newest c.add.new.self =
    record { new = told.allowed; last = told.newest; later = told.later; keys = told.keys } in
    subst (IsSound same limit c.add.new.self) (sym (c.set_received-in-Some-received.ensures.entries c.in-Some.field-0-0.now c.in-Some.message.now there))
    (sound-later same limit others entries c.args.place c.self.invariant there c.in-Some-received.first c.in-Some-received.is c.args.task c.args.event newest added)

pub returns-in-None-clause-received : goal.returns-in-None-clause-received
returns-in-None-clause-received g c = λ name at.
    let same = g.T.PartialEq.eq in
    let limit = c.self.inside.limit in
    let others = c.self.inside.others in
    let entries = c.self.inside.messages.entries in
    let book = c.args.self.now.book in
    let key = c.in-Some.field-0-0.now in
    let message = c.in-Some.message.now in
    let there = sym c.in-Some.ensures.entry in
    let found : Found same limit others entries c.args.place book key name message =
    record { sound = c.self.invariant; view = ap (λ (roomy : Roomy _). roomy.book) c.self.view_is; there = there; value = c.in-Some.ensures.value; at = at } in
    let after = book_of limit others.later c.set_received.new.messages.entries in
    let new = is_new same limit others entries c.args.place found c.args.task (ap (λ received. is_receiver same others.keys c.args.place received c.args.task) c.in-None.is) in
    let first = with_first same limit others entries c.args.place c.self.invariant there c.in-None.is c.args.task c.args.event in
    let sent = sent-first same limit others entries c.args.place c.self.invariant there c.in-None.is c.args.task c.args.event in
    receives-ok same name c.args.task c.args.event book after tt new
    (ap (book_of limit others.later) (c.set_received.ensures.entries key message there)
    ∙ book_with same limit others entries c.args.place found (entry_with_receipt c.args.task c.args.event) others.later first c.set_received.ensures.unique refl sent)

pub returns-in-None-clause-room : goal.returns-in-None-clause-room
returns-in-None-clause-room g c = λ name at some.
    let same = g.T.PartialEq.eq in
    let limit = c.self.inside.limit in
    let others = c.self.inside.others in
    let entries = c.self.inside.messages.entries in
    let book = c.args.self.now.book in
    let key = c.in-Some.field-0-0.now in
    let message = c.in-Some.message.now in
    let there = sym c.in-Some.ensures.entry in
    let found : Found same limit others entries c.args.place book key name message =
    record { sound = c.self.invariant; view = ap (λ (roomy : Roomy _). roomy.book) c.self.view_is; there = there; value = c.in-Some.ensures.value; at = at } in
    sym (is_new same limit others entries c.args.place found c.args.task (ap (λ received. is_receiver same others.keys c.args.place received c.args.task) c.in-None.is))

pub returns-in_ok-newest-in-Some-received-clause-received : goal.returns-in_ok-newest-in-Some-received-clause-received
returns-in_ok-newest-in-Some-received-clause-received g c = λ name at.
    let same = g.T.PartialEq.eq in
    let limit = c.self.inside.limit in
    let others = c.self.inside.others in
    let entries = c.self.inside.messages.entries in
    let book = c.args.self.now.book in
    let key = c.in-Some.field-0-0.now in
    let message = c.in-Some.message.now in
    let there = sym c.in-Some.ensures.entry in
    let found : Found same limit others entries c.args.place book key name message =
    record { sound = c.self.invariant; view = ap (λ (roomy : Roomy _). roomy.book) c.self.view_is; there = there; value = c.in-Some.ensures.value; at = at } in
    let first = c.in-Some-received.first in
    let some = c.in-Some-received.is in
    let newest = c.in_ok-newest-in-Some-received.newest in
    let told = c.in_ok-newest-in-Some-received.ensures in
    let added : Added same limit others entries c.args.place c.self.invariant there first some c.args.task c.args.event newest c.add.new.self =
    record { new = told.allowed; last = told.newest; later = told.later; keys = told.keys } in
    let later = c.add.new.self.later in
    let after = book_of limit later c.set_received-in-Some-received.new.messages.entries in
    let new = is_new_later same limit others entries c.args.place found first some c.args.task (sym c.if-eq.ensures) told.allowed in
    let written = with_later same limit others entries c.args.place c.self.invariant there first some c.args.task c.args.event newest in
    let seen = seen-later same limit others entries c.args.place c.self.invariant there first some c.args.task c.args.event newest added in
    let sent = sent-later same limit others entries c.args.place c.self.invariant there first some c.args.task c.args.event newest added in
    receives-ok same name c.args.task c.args.event book after tt new
    (ap (book_of limit later) (c.set_received-in-Some-received.ensures.entries key message there)
    ∙ book_with same limit others entries c.args.place found (entry_with_receipt c.args.task c.args.event) later written c.set_received-in-Some-received.ensures.unique seen sent)

pub returns-in_ok-newest-in-Some-received-clause-room : goal.returns-in_ok-newest-in-Some-received-clause-room
returns-in_ok-newest-in-Some-received-clause-room g c = λ name at some.
    let same = g.T.PartialEq.eq in
    let limit = c.self.inside.limit in
    let others = c.self.inside.others in
    let entries = c.self.inside.messages.entries in
    let book = c.args.self.now.book in
    let key = c.in-Some.field-0-0.now in
    let message = c.in-Some.message.now in
    let there = sym c.in-Some.ensures.entry in
    let found : Found same limit others entries c.args.place book key name message =
    record { sound = c.self.invariant; view = ap (λ (roomy : Roomy _). roomy.book) c.self.view_is; there = there; value = c.in-Some.ensures.value; at = at } in
    sym (is_new_later same limit others entries c.args.place found c.in-Some-received.first c.in-Some-received.is c.args.task (sym c.if-eq.ensures)
    c.in_ok-newest-in-Some-received.ensures.allowed)
