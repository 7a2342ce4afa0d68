use Rattle.event_tree.proofs.NormLemmas.{value-norm, normal_norm}
use Rattle.event_tree.proofs.laws.norm_value.Goals as goal

pub returns : goal.returns
returns c = record { values = value-norm; normal = normal_norm }
