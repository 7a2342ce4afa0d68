use Rattle.std.proofs.Common.{map}
use Rattle.trace_query.proofs.Gathered.{ordered}
use Rattle.trace_query.proofs.queries.order.Goals as goal

pub returns : goal.returns
returns g c =
    ordered (map g.K.Meant.tree c.args.kept.now) c.args.first c.args.second _ _ c.order.result c.in_ok-first.ensures.known c.in_ok-second.ensures.known
    c.in_ok-first.ensures.tree c.in_ok-second.ensures.tree c.order.ensures
