use Rattle.std.proofs.Common.{map}
use Rattle.tenant_ledger.proofs.keeping.Told.{past_answered}
use Rattle.tenant_ledger.proofs.Words.{tenant_of}
use Rattle.tenant_ledger.proofs.query_answers.past.Goals as goal

pub returns : goal.returns
returns g c =
    let book = c.args.book.now in
    let listed = c.listed.ensures in
    past_answered (tenant_of book) (map g.S.Kept.Meant.tree c.trees_and_points.result.0.now) c.requires.sound.legal c.trees_and_points.ensures.trees
    c.args.event c.listed.result c.past_by_points.result c.past_by_points.ensures listed.events listed.fault

pub past_by_points-requires-clause-admitted : goal.past_by_points-requires-clause-admitted
past_by_points-requires-clause-admitted g c = λ place any within. c.requires.admitted _ (c.trees_and_points.ensures.kept place any within)
