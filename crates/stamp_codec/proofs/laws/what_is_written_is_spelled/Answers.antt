use Rattle.stamp_codec.proofs.RoundTrip.{text_is}
use Rattle.stamp_codec.proofs.laws.what_is_written_is_spelled.Goals as goal

pub returns : goal.returns
returns c = text_is
