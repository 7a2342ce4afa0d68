use Rattle.std.proofs.Common.{map, ap, refl, Less, Equal, Greater}
use Rattle.std.proofs.lemmas.Cmp.{ranked}
use Rattle.trace_types.specs.declared.order.Order.TheVariants.{Same}
use Rattle.event_tree.proofs.Standing.{stands_same}
use Rattle.trace_query.specs.Queries.{tree_at}
use Rattle.trace_query.proofs.Gathered.{ordered}
use Rattle.trace_query.proofs.InOrder.{told_by_first, told_by_second}
use Rattle.trace_query.proofs.queries_by_points.order_by_points.Goals as goal

pub ordered-order-requires-clause-told : goal.ordered-order-requires-clause-told
ordered-order-requires-clause-told g c =
    rw (c.in_ok-one.ensures.tree, c.in_ok-other.ensures.tree)
    (told_by_first (map g.K.Meant.tree c.args.kept.now) c.args.points.now c.requires.in_order c.requires.decided c.args.first c.args.second
    c.in_ok-one.ensures.known c.in_ok-other.ensures.known (ranked c.args.first c.args.second Less c.in-Less.ensures))

pub ordered-order-requires-in-Greater-clause-told : goal.ordered-order-requires-in-Greater-clause-told
ordered-order-requires-in-Greater-clause-told g c =
    rw (c.in_ok-one.ensures.tree, c.in_ok-other.ensures.tree)
    (told_by_second (map g.K.Meant.tree c.args.kept.now) c.args.points.now c.requires.in_order c.requires.decided c.args.first c.args.second
    c.in_ok-one.ensures.known c.in_ok-other.ensures.known (ranked c.args.first c.args.second Greater c.in-Greater.ensures))

pub returns-in-Less : goal.returns-in-Less
returns-in-Less g c =
    ordered (map g.K.Meant.tree c.args.kept.now) c.args.first c.args.second _ _ c.ordered-order.result c.in_ok-one.ensures.known c.in_ok-other.ensures.known
    c.in_ok-one.ensures.tree c.in_ok-other.ensures.tree c.ordered-order.ensures

pub returns-in-Equal : goal.returns-in-Equal
returns-in-Equal g c =
    let trees = map g.K.Meant.tree c.args.kept.now in
    ordered trees c.args.first c.args.second (tree_at trees c.args.first) (tree_at trees c.args.first) Same c.in_ok-one.ensures.known c.in_ok-other.ensures.known
    refl (ap (tree_at trees) (ranked c.args.first c.args.second Equal c.in-Equal.ensures)) (stands_same (tree_at trees c.args.first))

pub returns-in-Greater : goal.returns-in-Greater
returns-in-Greater g c =
    ordered (map g.K.Meant.tree c.args.kept.now) c.args.first c.args.second _ _ c.ordered-order-in-Greater.result c.in_ok-one.ensures.known c.in_ok-other.ensures.known
    c.in_ok-one.ensures.tree c.in_ok-other.ensures.tree c.ordered-order-in-Greater.ensures
