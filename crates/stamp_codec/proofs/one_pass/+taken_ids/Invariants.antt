use Rattle.std.proofs.Common.{◌+◌, ◌*◌}
use Rattle.stamp_codec.proofs.one_pass.+taken_ids.Given as goal

abbrev pub decreases-take_pair : goal.decreases-take_pair
decreases-take_pair l = 2 * l.levels

abbrev pub decreases-take_id : goal.decreases-take_id
decreases-take_id l = 2 * l.levels + 1
