use Rattle.std.proofs.Common.{◌≡◌, ℕ, ◌↔◌, ◌⊎◌, length, take}
use Rattle.trace_export.specs.Bits.{HasBit}
use Rattle.trace_export.specs.Graph.{IsReachedBy, rows_of}
use Rattle.trace_export.proofs.graph.Graph.add_reaching.Given as goal

abbrev pub invariant-loop-pred : goal.invariant-loop-pred
invariant-loop-pred l = record {
  room : length l.bits ≡ length l.fn.bits;
  has : (place : ℕ) → HasBit l.bits place ↔ (HasBit l.fn.bits place ⊎ IsReachedBy (rows_of l.self) (take l.pred-index l.preds) place);
}
