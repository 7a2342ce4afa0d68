use Rattle.std.proofs.Common.{map, ap, sym, ◌∙◌}
use Rattle.tenant_ledger.proofs.keeping.Told.{order_reply, order_answered}
use Rattle.tenant_ledger.proofs.Words.{Refused, tenant_of}
use Rattle.tenant_ledger.proofs.query_answers.order_of.Goals as goal

pub order_by_points-requires-clause-admitted : goal.order_by_points-requires-clause-admitted
order_by_points-requires-clause-admitted g c = λ place any within. c.requires.admitted _ (c.trees_and_points.ensures.kept place any within)

pub returns-in-Ok : goal.returns-in-Ok
returns-in-Ok g c =
    let book = c.args.book.now in
    ap order_reply (sym c.in-Ok.is ∙ c.order_by_points.ensures)
    ∙ order_answered (tenant_of book) (map g.S.Kept.Meant.tree c.trees_and_points.result.0.now) c.requires.sound.legal c.trees_and_points.ensures.trees c.args.first c.args.second

pub returns-in-Err : goal.returns-in-Err
returns-in-Err g c =
    let book = c.args.book.now in
    ap Refused c.code_of.ensures ∙ ap order_reply (sym c.in-Err.is ∙ c.order_by_points.ensures)
    ∙ order_answered (tenant_of book) (map g.S.Kept.Meant.tree c.trees_and_points.result.0.now) c.requires.sound.legal c.trees_and_points.ensures.trees c.args.first c.args.second
