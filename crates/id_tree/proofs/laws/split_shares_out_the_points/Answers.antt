use Rattle.id_tree.proofs.Split.{SharesOut-split}
use Rattle.id_tree.proofs.laws.split_shares_out_the_points.Goals as goal

pub returns : goal.returns
returns c = SharesOut-split
