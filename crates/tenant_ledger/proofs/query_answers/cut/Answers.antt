use Rattle.std.proofs.Common.{map, ◌∙◌}
use Rattle.std.proofs.lemmas.List.{length-map}
use Rattle.tenant_ledger.proofs.keeping.Told.{as_many_starts, cut_answered, starts_before}
use Rattle.tenant_ledger.proofs.Words.{tenant_of}
use Rattle.tenant_ledger.proofs.query_answers.cut.Goals as goal

pub cut_by_points-requires-clause-tasks : goal.cut_by_points-requires-clause-tasks
cut_by_points-requires-clause-tasks g c =
    let book = c.args.book.now in
    as_many_starts (tenant_of book) (map g.S.Kept.Meant.tree c.trees_and_points.result.0.now) c.requires.sound.legal c.trees_and_points.ensures.trees c.starts.result.now c.starts.ensures
    ∙ length-map c.trees_and_points.result.0.now g.S.Kept.Meant.tree

pub cut_by_points-requires-clause-earlier : goal.cut_by_points-requires-clause-earlier
cut_by_points-requires-clause-earlier g c =
    let book = c.args.book.now in
    starts_before (tenant_of book) (map g.S.Kept.Meant.tree c.trees_and_points.result.0.now) c.requires.sound.legal c.trees_and_points.ensures.trees c.starts.result.now c.starts.ensures

pub returns : goal.returns
returns g c =
    let book = c.args.book.now in
    let listed = c.listed.ensures in
    cut_answered (tenant_of book) (map g.S.Kept.Meant.tree c.trees_and_points.result.0.now) c.requires.sound.legal c.trees_and_points.ensures.trees
    c.args.event c.listed.result c.starts.result.now c.starts.ensures c.cut_by_points.result c.cut_by_points.ensures listed.events listed.fault

pub cut_by_points-requires-clause-admitted : goal.cut_by_points-requires-clause-admitted
cut_by_points-requires-clause-admitted g c = λ place any within. c.requires.admitted _ (c.trees_and_points.ensures.kept place any within)
