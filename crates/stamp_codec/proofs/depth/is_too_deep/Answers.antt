use Rattle.std.proofs.Common.{arith}
use Rattle.stamp_codec.proofs.Depths.{short_stamp}
use Rattle.stamp_codec.proofs.depth.is_too_deep.Goals as goal

pub returns-then-text : goal.returns-then-text
returns-then-text c = λ id tree spells. ((λ is. cc), (λ deep. absurd (omega (arith, deep, short_stamp c.args.text.now id tree spells, c.if-text.true))))
