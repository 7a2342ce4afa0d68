use Rattle.std.proofs.Common.{◌≡◌, map, vec_len}
use Rattle.trace_query.proofs.LastEvents.{IsGathered}
use Rattle.trace_query.proofs.queries_by_points.cut_by_points.Given as goal

abbrev pub invariant-loop-place : goal.invariant-loop-place
invariant-loop-place g l =
    (vec_len l.is_listed ≡ l.event) × IsGathered (map g.K.Meant.tree l.kept) l.tasks l.event l.place l.is_listed.items l.events.items
