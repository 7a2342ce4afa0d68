use Rattle.tenant_ledger.specs.declared.book.report.Deed.TheVariants as deed
use Rattle.tenant_ledger.proofs.keeping.Drafted.{report_taken}
use Rattle.tenant_ledger.proofs.keeping.Kept.{report_with_room}
use Rattle.tenant_ledger.proofs.book.Book.take_spawn.Goals as goal

pub event-requires-clause-report : goal.event-requires-clause-report
event-requires-clause-report g c =
    report_with_room c.args.self.now c.requires.book c.ready.new.self c.ready.ensures.same (record c.args.report.now { deed = deed.Spawn c.args.child.now }) c.requires.report

pub returns : goal.returns
returns g c =
    report_taken c.args.self.now (record c.args.report.now { deed = (deed.Spawn c.args.child.now) }) c.requires.book c.ready.new.self c.ready.ensures.same c.ready.ensures.seeded c.in_ok-ready.ensures.room c.requires.report
    c.event.result c.event.ensures.event c.event.ensures.point
    c.commit.new.self c.commit.ensures.book c.commit.result c.commit.ensures.event
