use Rattle.id_tree.proofs.Sum.{owns-sum}
use Rattle.id_tree.proofs.laws.sum_owns_what_either_owns.Goals as goal

pub returns : goal.returns
returns c = owns-sum
