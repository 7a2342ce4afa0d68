use Rattle.std.proofs.Common.{◌≡◌, ℕ, suc, ◌↔◌, ◌⊎◌, length, take}
use Rattle.std.specs.List.{Contains}
use Rattle.trace_export.specs.Bits.{HasBit}
use Rattle.trace_export.proofs.graph.add_events.Given as goal

abbrev pub invariant-loop-event : goal.invariant-loop-event
invariant-loop-event l = record {
  len : length l.bits ≡ length l.fn.bits;
  added : (place : ℕ) → HasBit l.bits place ↔ (HasBit l.fn.bits place ⊎ Contains (take l.event-index l.events) (suc place));
}
