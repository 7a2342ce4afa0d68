use Rattle.std.proofs.Common.{◌≡◌, map}
use Rattle.trace_types.specs.declared.order.Order.TheVariants.{Concurrent}
use Rattle.trace_query.proofs.Gathered.{listed_to}
use Rattle.trace_query.proofs.queries_by_points.concurrent_by_points.Given as goal

abbrev pub invariant-loop-place : goal.invariant-loop-place
invariant-loop-place g l = l.events.items ≡ listed_to Concurrent (map g.K.Meant.tree l.kept) l.event l.place
