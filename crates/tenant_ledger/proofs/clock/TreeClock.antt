-- The interval tree clock has the laws of a clock.
use Rattle.std.proofs.Common.{◌≢◌, true, [], refl, sym, ap, ◌∙◌}
use Rattle.std.proofs.lemmas.Bool.{false≢true}
use Rattle.trace_types.specs.clock.Points.{Point}
use Rattle.trace_types.specs.clock.Id as ids
use Rattle.tenant_ledger.proofs.Words.{Id, Zero, owns, split, EventTree, value, tree_clock, ClockLaws, OwnsSome}
use Rattle.trace_types.specs.clock.EventTree as trees
use Rattle.id_tree.proofs.Ids.{some_point}
use Rattle.id_tree.proofs.Split.{SharesOut-split, split-some, IsNormal-split}
use Rattle.id_tree.proofs.Sum.{owns-sum, IsNormal-sum}
use Rattle.event_tree.proofs.Joined.{value-join, normal_joined}
use Rattle.event_tree.proofs.Events.{Raises, raises_event}

pub some_is_not_Zero : (id : Id) → OwnsSome owns id → id ≢ Zero
some_is_not_Zero id some is = false≢true (ap (λ i. owns i some.0) (sym is) ∙ some.1)

pub split_parts_some : (id : Id) → ids.IsNormalId id → OwnsSome owns id → OwnsSome owns (split id).0 × OwnsSome owns (split id).1
split_parts_some id normal some =
    let parts = split-some id (some_is_not_Zero id some) in
    let parts_normal = IsNormal-split id normal in
    (some_point true (split id).0 parts_normal.0 parts.0, some_point true (split id).1 parts_normal.1 parts.1)

pub raises : (id : Id) (tree : EventTree) → ids.IsNormalId id → OwnsSome owns id → trees.IsNormal tree → Raises id tree (tree_clock.event id tree)
raises id tree id_normal some normal = raises_event id tree id_normal (some_is_not_Zero id some) normal

abbrev pub tree_clock_laws : ClockLaws tree_clock Point ids.IsNormalId trees.IsNormal
tree_clock_laws = record {
  owns = owns;
  value = value;
  nobody_normal = tt;
  nobody_owns = λ point. refl;
  whole_normal = tt;
  whole_some = ([], refl);
  split_normal = IsNormal-split;
  split_owns = λ id point. (SharesOut-split id point).0;
  split_apart = λ id point. (SharesOut-split id point).1;
  split_some = split_parts_some;
  sum_normal = IsNormal-sum;
  sum_owns = owns-sum;
  start_normal = tt;
  start_value = λ point. refl;
  join_normal = λ e f e_normal f_normal. normal_joined 0 e 0 f;
  join_value = value-join;
  event_raises = λ id tree id_normal some normal.
      let raised = raises id tree id_normal some normal in
      record { normal = raised.normal; above = raised.raised.below; outside = raised.raised.outside; rises = raised.rises };
}
