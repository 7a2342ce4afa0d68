use Rattle.event_tree.proofs.Filled.{fills, normal_fill}
use Rattle.event_tree.proofs.laws.fill_raises.Goals as goal

pub returns : goal.returns
returns c = record {
  lowers_none = λ id tree normal. (fills id tree normal).raised.below;
  outside = λ id tree normal. (fills id tree normal).raised.outside;
  normal = normal_fill;
}
