use Rattle.id_tree.proofs.Split.{IsNormal-split}
use Rattle.id_tree.proofs.laws.split_is_normal.Goals as goal

pub returns : goal.returns
returns c = IsNormal-split
