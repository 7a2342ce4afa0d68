use Rattle.id_tree.proofs.Sum.{IsNormal-sum}
use Rattle.id_tree.proofs.laws.sum_is_normal.Goals as goal

pub returns : goal.returns
returns c = IsNormal-sum
