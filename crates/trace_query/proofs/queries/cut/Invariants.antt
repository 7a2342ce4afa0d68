use Rattle.std.proofs.Common.{◌≡◌, length, map, vec_len}
use Rattle.trace_query.proofs.LastEvents.{IsGathered}
use Rattle.trace_query.proofs.queries.cut.Given as goal

abbrev pub invariant-loop-place : goal.invariant-loop-place
invariant-loop-place g l =
    (vec_len l.is_listed ≡ length l.kept) × IsGathered (map g.K.Meant.tree l.kept) l.tasks l.event l.place l.is_listed.items l.events.items
