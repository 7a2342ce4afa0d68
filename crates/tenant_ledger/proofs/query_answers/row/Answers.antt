use Rattle.std.proofs.Common.{get_or, sym, ◌∙◌}
use Rattle.tenant_ledger.proofs.keeping.Answered.{row_answered}
use Rattle.tenant_ledger.proofs.Words.{tenant_of}
use Rattle.tenant_ledger.proofs.query_answers.row.Goals as goal

pub returns-in-Some : goal.returns-in-Some
returns-in-Some g c =
    let found = c.in-Some.ensures in
    row_answered (tenant_of c.args.book.now) c.args.event c.in-Some.place c.share.result (sym found.there) found.place.0
    (c.share.ensures ∙ c.index-rows-place.is ∙ (λ i. get_or (c.rows.ensures i) c.in-Some.place (sym c.share.ensures i)))
