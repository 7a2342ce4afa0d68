use Rattle.std.proofs.Common.{◌-◌, ◌<◌, ◌≤◌}
use Rattle.trace_export.specs.Bits.{HasBit}
use Rattle.trace_export.specs.Chains.{IsOnChain}
use Rattle.trace_export.proofs.chains.Chains.first_outside.Given as goal

abbrev pub invariant-loop-first : goal.invariant-loop-first
invariant-loop-first l = record {
  some : 0 < l.first;
  low : l.first ≤ l.event;
  chain : IsOnChain l.self.before.items l.first l.event;
  outside : ¬ HasBit l.set (l.event - 1) → ¬ HasBit l.set (l.first - 1);
}

abbrev pub decreases-loop-first : goal.decreases-loop-first
decreases-loop-first l = l.first
