use Rattle.std.proofs.Common.{sym, ◌∙◌}
use Rattle.stamp_codec.proofs.Depths.{depth_end, depth_stamp}
use Rattle.stamp_codec.proofs.depth.depth_of.Goals as goal

pub returns : goal.returns
returns c = λ id tree spells.
    sym (depth_end c.loop-rest.deepest c.loop-rest.nested c.loop-rest.rest.now c.in_default.len_below)
    ∙ c.loop-rest.invariant.same ∙ depth_stamp c.args.text.now id tree spells
