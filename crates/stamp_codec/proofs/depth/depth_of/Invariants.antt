use Rattle.std.proofs.Common.{◌≡◌, ◌+◌, ◌≤◌, length}
use Rattle.stamp_codec.proofs.Depths.{depth_from}
use Rattle.stamp_codec.proofs.depth.depth_of.Given as goal

abbrev pub invariant-loop-rest : goal.invariant-loop-rest
invariant-loop-rest l = record { same : depth_from l.deepest l.nested l.rest ≡ depth_from 0 0 l.text; fits : l.nested + length l.rest ≤ length l.text }

abbrev pub decreases-loop-rest : goal.decreases-loop-rest
decreases-loop-rest l = length l.rest
