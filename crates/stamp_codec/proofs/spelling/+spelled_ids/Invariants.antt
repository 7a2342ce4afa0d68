use Rattle.std.proofs.Common.{◌+◌, ◌*◌, max}
use Rattle.stamp_codec.specs.Bounds.{id_height}
use Rattle.stamp_codec.proofs.spelling.+spelled_ids.Given as goal

abbrev pub decreases-spell_id : goal.decreases-spell_id
decreases-spell_id g l = 2 * id_height l.id.now

abbrev pub decreases-spell_pair : goal.decreases-spell_pair
decreases-spell_pair g l = 2 * max (id_height l.left.now) (id_height l.right.now) + 1
