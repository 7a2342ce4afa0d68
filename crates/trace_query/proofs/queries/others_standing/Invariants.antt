use Rattle.std.proofs.Common.{◌≡◌, map}
use Rattle.trace_query.proofs.Gathered.{listed_to}
use Rattle.trace_query.proofs.queries.others_standing.Given as goal

abbrev pub invariant-loop-place : goal.invariant-loop-place
invariant-loop-place g l = l.events.items ≡ listed_to l.wanted (map g.K.Meant.tree l.kept) l.event l.place
