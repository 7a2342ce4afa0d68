use Rattle.std.proofs.Common.{◌-◌}
use Rattle.stamp_codec.specs.Faults.{most_nested}
use Rattle.stamp_codec.proofs.first_fault.+look_at_id.Given as goal

abbrev pub decreases-look_at_id : goal.decreases-look_at_id
decreases-look_at_id l = most_nested - l.nested
