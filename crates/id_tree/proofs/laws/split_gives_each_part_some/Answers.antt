use Rattle.id_tree.proofs.Split.{split-some}
use Rattle.id_tree.proofs.laws.split_gives_each_part_some.Goals as goal

pub returns : goal.returns
returns c = split-some
