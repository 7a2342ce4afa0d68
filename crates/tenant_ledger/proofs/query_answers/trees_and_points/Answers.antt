use Rattle.std.proofs.Common.{map}
use Rattle.tenant_ledger.proofs.keeping.Told.{decide_in_order, stand_in_order}
use Rattle.tenant_ledger.proofs.Words.{tenant_of}
use Rattle.tenant_ledger.proofs.query_answers.trees_and_points.Goals as goal

pub returns-clause-in_order : goal.returns-clause-in_order
returns-clause-in_order g c =
    let book = c.args.book.now in
    stand_in_order (tenant_of book) (map g.S.Kept.Meant.tree c.trees.result.now) c.requires.legal c.trees.ensures.trees

pub returns-clause-decided : goal.returns-clause-decided
returns-clause-decided g c =
    let book = c.args.book.now in
    decide_in_order (tenant_of book) (map g.S.Kept.Meant.tree c.trees.result.now) c.requires.legal c.trees.ensures.trees c.points.result.now c.points.ensures
