use Rattle.tenant_ledger.proofs.keeping.Drafted.{drafted}
use Rattle.tenant_ledger.proofs.book.Book.draft.Goals as goal

pub returns : goal.returns
returns g c =
    drafted c.args.self.now c.args.request.now c.in-Ok.report c.in-Ok.ensures.answer c.in-Ok.ensures.refused c.requires.book c.requires.seeded c.in-Ok.ensures.report
    c.event.result c.event.ensures.event c.event.ensures.point
