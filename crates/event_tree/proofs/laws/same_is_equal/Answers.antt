use Rattle.event_tree.proofs.Standing as standing
use Rattle.event_tree.proofs.laws.same_is_equal.Goals as goal

pub returns : goal.returns
returns c = standing.same_is_equal
