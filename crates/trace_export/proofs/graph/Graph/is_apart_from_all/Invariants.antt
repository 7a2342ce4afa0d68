use Rattle.std.proofs.Common.{◌≡◌, ℕ, ◌-◌, ◌<◌, ◌≤◌, length}
use Rattle.trace_export.specs.Bits.{HasBit}
use Rattle.trace_export.specs.Graph.{ArePoints, IsApartFromChain}
use Rattle.trace_export.proofs.graph.Graph.is_apart_from_all.Given as goal

abbrev pub invariant-loop-place : goal.invariant-loop-place
invariant-loop-place l = record {
  points : ArePoints l.hints.points.items l.self.placed.items;
  kept : l.hints.are_kept ≡ l.fn.hints.are_kept;
  apart : (last : ℕ) → 0 < last → last ≤ l.place → last ≤ length l.self.placed.items → HasBit l.self.chains.tails.items (last - 1)
      → IsApartFromChain l.self.placed.items l.self.chains.before.items l.self.followed.items l.reaching l.placed.tree last;
}

abbrev pub decreases-loop-place : goal.decreases-loop-place
decreases-loop-place l = length l.self.placed.items - l.place
