use Rattle.tenant_ledger.proofs.keeping.Drafted.{prepared}
use Rattle.tenant_ledger.proofs.keeping.Kept.{kept_with_room, report_with_room}
use Rattle.tenant_ledger.proofs.book.Book.prepare.Goals as goal

pub made-requires-clause-book : goal.made-requires-clause-book
made-requires-clause-book g c = kept_with_room c.args.self.now c.requires.book c.ready.new.self c.ready.ensures.same c.ready.ensures.seeded

pub made-requires-clause-report : goal.made-requires-clause-report
made-requires-clause-report g c = report_with_room c.args.self.now c.requires.book c.ready.new.self c.ready.ensures.same c.in-Ok.report c.in-Ok.ensures.report

pub event-requires-clause-book : goal.event-requires-clause-book
event-requires-clause-book g c = kept_with_room c.args.self.now c.requires.book c.ready.new.self c.ready.ensures.same c.ready.ensures.seeded

pub event-requires-clause-report : goal.event-requires-clause-report
event-requires-clause-report g c = report_with_room c.args.self.now c.requires.book c.ready.new.self c.ready.ensures.same c.in-Ok.report c.in-Ok.ensures.report

pub returns : goal.returns
returns g c =
    prepared c.args.self.now c.args.request.now c.in-Ok.report c.in-Ok.ensures.answer c.in-Ok.ensures.refused c.requires.book c.ready.new.self
    c.ready.ensures.same c.ready.ensures.seeded c.in_ok-ready.ensures.room c.in-Ok.ensures.report
    c.event.result c.event.ensures.event c.event.ensures.point
