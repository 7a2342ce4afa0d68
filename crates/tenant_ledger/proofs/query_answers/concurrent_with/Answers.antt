use Rattle.std.proofs.Common.{map}
use Rattle.tenant_ledger.proofs.keeping.Told.{concurrent_answered}
use Rattle.tenant_ledger.proofs.Words.{tenant_of}
use Rattle.tenant_ledger.proofs.query_answers.concurrent_with.Goals as goal

pub returns : goal.returns
returns g c =
    let book = c.args.book.now in
    let listed = c.listed.ensures in
    concurrent_answered (tenant_of book) (map g.S.Kept.Meant.tree c.trees_and_points.result.0.now) c.requires.sound.legal c.trees_and_points.ensures.trees
    c.args.event c.listed.result c.concurrent_by_points.result c.concurrent_by_points.ensures listed.events listed.fault

pub concurrent_by_points-requires-clause-admitted : goal.concurrent_by_points-requires-clause-admitted
concurrent_by_points-requires-clause-admitted g c = λ place any within. c.requires.admitted _ (c.trees_and_points.ensures.kept place any within)
