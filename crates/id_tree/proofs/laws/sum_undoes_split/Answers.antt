use Rattle.id_tree.proofs.Disjoint.{sum-split}
use Rattle.id_tree.proofs.laws.sum_undoes_split.Goals as goal

pub returns : goal.returns
returns c = sum-split
