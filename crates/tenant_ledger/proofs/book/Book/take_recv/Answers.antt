use Rattle.tenant_ledger.specs.declared.book.report.Deed.TheVariants as deed
use Rattle.tenant_ledger.proofs.keeping.Drafted.{report_taken}
use Rattle.tenant_ledger.proofs.book.Book.take_recv.Goals as goal

pub returns : goal.returns
returns g c =
    report_taken c.args.self.now (record c.args.report.now { deed = (deed.Recv c.args.message.now c.args.place c.args.sent) }) c.requires.book c.ready.new.self c.ready.ensures.same c.ready.ensures.seeded c.in_ok-ready.ensures.room c.requires.report
    c.event.result c.event.ensures.event c.event.ensures.point
    c.commit.new.self c.commit.ensures.book c.commit.result c.commit.ensures.event
