use Rattle.event_tree.proofs.Events.{raises_event}
use Rattle.event_tree.proofs.laws.event_raises.Goals as goal

pub returns : goal.returns
returns c = record {
  lowers_none = λ id tree id_normal some normal. (raises_event id tree id_normal some normal).raised.below;
  outside = λ id tree id_normal some normal. (raises_event id tree id_normal some normal).raised.outside;
  rises = λ id tree id_normal some normal. (raises_event id tree id_normal some normal).rises;
  bounded = λ id tree id_normal some normal. (raises_event id tree id_normal some normal).bounded;
  normal = λ id tree id_normal some normal. (raises_event id tree id_normal some normal).normal;
}
