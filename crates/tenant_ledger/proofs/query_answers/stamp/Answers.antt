use Rattle.std.proofs.Common.{sym, ◌∙◌}
use Rattle.tenant_ledger.proofs.keeping.Answered.{stamp_answered}
use Rattle.tenant_ledger.proofs.Words.{tenant_of}
use Rattle.tenant_ledger.proofs.query_answers.stamp.Goals as goal

pub returns-in-Ok : goal.returns-in-Ok
returns-in-Ok g c =
    let found = c.in-Some.ensures in
    stamp_answered (tenant_of c.args.book.now) c.args.event (sym found.there) _ c.tree_value.result.now found.id (c.tree_value.ensures ∙ found.tree) c.from.result (c.from.ensures ∙ c.in-Ok.ensures)
