use Rattle.std.proofs.Common.{◌≡◌, [], ◌++◌, Some, None, sym, ap, ◌∙◌, rules}
use Rattle.tenant_ledger.proofs.Words.{accepted, answer_to, first_code, kind_of, name_of, refusal_of, history_in, refusals_of_named, refusals_of_room}
use Rattle.tenant_ledger.proofs.keeping.Refused.{by_report, is_named, refused_for, AreLegal-push}
use Rattle.tenant_ledger.proofs.book.Book.report.Goals.{In_ok-check_room}
use Rattle.tenant_ledger.proofs.book.Book.report.Given.{Over}
use Rattle.tenant_ledger.proofs.book.Book.report.Goals as goal

not_refused : (g : Over) (c : In_ok-check_room g) → refusal_of c.args.self.now.limits (history_in c.args.self.now) c.args.request.now ≡ None
not_refused g c =
    let limits = c.args.self.now.limits in
    let history = history_in c.args.self.now in
    let report = c.in-Some.reported in
    ap first_code (refused_for c.args.self.now c.args.request.now (sym c.in-Some.is ∙ c.reported.ensures.reported))
    ∙ c.in_ok-acting.ensures.decides (refusals_of_named limits history report.task report.kind report.name ++ refusals_of_room limits history)
    ∙ c.in_ok-deed.ensures.decides (refusals_of_room limits history) ∙ c.in_ok-check_room.ensures.decides []

pub returns-in_err-acting-clause-refused : goal.returns-in_err-acting-clause-refused
returns-in_err-acting-clause-refused g c =
    rw (refused_for c.args.self.now c.args.request.now (sym c.in-Some.is ∙ c.reported.ensures.reported)) (search rules)

pub returns-in_err-deed-clause-refused : goal.returns-in_err-deed-clause-refused
returns-in_err-deed-clause-refused g c =
    rw (refused_for c.args.self.now c.args.request.now (sym c.in-Some.is ∙ c.reported.ensures.reported)) (search rules)

pub returns-in_err-check_room-clause-refused : goal.returns-in_err-check_room-clause-refused
returns-in_err-check_room-clause-refused g c =
    rw (refused_for c.args.self.now c.args.request.now (sym c.in-Some.is ∙ c.reported.ensures.reported)) (search rules)

pub returns-clause-refused : goal.returns-clause-refused
returns-clause-refused g c = sym (not_refused g (goal.at.returns-clause-refused g c).In_ok-check_room)

-- the answer is that to a report of this kind, which names this
answer_is : (g : Over) (c : In_ok-check_room g) → answer_to (history_in c.args.self.now) c.args.request.now
    ≡ accepted (history_in c.args.self.now) c.in-Some.reported.task (kind_of c.in_ok-deed.deed) (name_of c.in_ok-deed.deed)
answer_is g c =
    let book = c.args.self.now in
    let of_report = by_report book.limits (history_in book) c.args.request.now (Some c.in-Some.reported) (sym c.in-Some.is ∙ c.reported.ensures.reported) in
    of_report.0 ∙ (λ i. accepted (history_in book) c.in-Some.reported.task (sym c.in_ok-deed.ensures.kind i) (sym c.in_ok-deed.ensures.name i))

pub deed-requires-clause-named : goal.deed-requires-clause-named
deed-requires-clause-named g c = is_named c.args.request.now (sym c.in-Some.is ∙ c.reported.ensures.reported)

pub returns-clause-answer : goal.returns-clause-answer
returns-clause-answer g c = answer_is g (goal.at.returns-clause-answer g c).In_ok-check_room

pub returns-clause-report : goal.returns-clause-report
returns-clause-report g c =
    let book = c.args.self.now in
    let at = (goal.at.returns-clause-report g c).In_ok-check_room in
    record {
      legal = AreLegal-push book.limits book.rows c.args.request.now _ c.in-Some.ensures.written (not_refused g at) (ap (λ answer. answer.1) (answer_is g at)) c.requires.book.legal;
      few = c.in_ok-check_room.ensures.room;
      acting = c.in_ok-acting.ensures.task;
      found = c.in_ok-deed.ensures.found;
    }
