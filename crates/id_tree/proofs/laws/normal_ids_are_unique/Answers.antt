use Rattle.id_tree.proofs.Ids.{same_points}
use Rattle.id_tree.proofs.laws.normal_ids_are_unique.Goals as goal

pub returns : goal.returns
returns c = same_points
