use Rattle.std.proofs.Common.{◌-◌}
use Rattle.stamp_codec.specs.Faults.{most_nested}
use Rattle.stamp_codec.proofs.first_fault.+look_at_tree.Given as goal

abbrev pub decreases-look_at_tree : goal.decreases-look_at_tree
decreases-look_at_tree l = most_nested - l.nested
