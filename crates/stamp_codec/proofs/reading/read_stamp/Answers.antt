use Rattle.stamp_codec.proofs.AtOnce.{only_reading}
use Rattle.stamp_codec.proofs.reading.read_stamp.Goals as goal

pub returns-in-Ok-clause-only : goal.returns-in-Ok-clause-only
returns-in-Ok-clause-only c = only_reading c.args.text.now c.in-Ok.stamp c.in-Ok.ensures.bounded c.in-Ok.ensures.text
