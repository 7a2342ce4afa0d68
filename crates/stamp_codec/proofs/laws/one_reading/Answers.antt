use Rattle.stamp_codec.proofs.Unique.{spells_once}
use Rattle.stamp_codec.proofs.laws.one_reading.Goals as goal

pub returns : goal.returns
returns c = spells_once
