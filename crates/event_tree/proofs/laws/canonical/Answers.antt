use Rattle.event_tree.proofs.Canonical.{same_from_values}
use Rattle.event_tree.proofs.laws.canonical.Goals as goal

pub returns : goal.returns
returns c = same_from_values
