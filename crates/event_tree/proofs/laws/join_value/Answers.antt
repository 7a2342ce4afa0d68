use Rattle.event_tree.proofs.Joined.{value-join, normal_joined}
use Rattle.event_tree.proofs.laws.join_value.Goals as goal

pub returns : goal.returns
returns c = record { values = value-join; normal = λ e f. normal_joined 0 e 0 f }
