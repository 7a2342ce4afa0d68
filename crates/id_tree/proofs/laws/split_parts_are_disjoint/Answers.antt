use Rattle.id_tree.proofs.Disjoint.{AreDisjoint-split}
use Rattle.id_tree.proofs.laws.split_parts_are_disjoint.Goals as goal

pub returns : goal.returns
returns c = AreDisjoint-split
