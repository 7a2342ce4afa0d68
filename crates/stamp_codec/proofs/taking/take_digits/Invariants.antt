use Rattle.std.proofs.Common.{◌≡◌, ◌+◌, ◌<◌, ◌≤◌, ◌++◌, decimal, length}
use Rattle.stamp_codec.proofs.taking.take_digits.Given as goal

abbrev pub invariant-loop-digit : goal.invariant-loop-digit
invariant-loop-digit l = record {
  text : l.rest.now ≡ decimal l.number ++ l.behind;
  some : 0 < l.number;
  below : l.number ≤ l.most + 9;
}

abbrev pub decreases-loop-digit : goal.decreases-loop-digit
decreases-loop-digit l = length l.behind
