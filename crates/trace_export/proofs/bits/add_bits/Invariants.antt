use Rattle.std.proofs.Common.{◌≡◌, ℕ, ◌<◌, ◌≤◌, length, slice_index_or, bit_or}
use Rattle.trace_export.proofs.bits.add_bits.Given as goal

abbrev pub invariant-loop-k : goal.invariant-loop-k
invariant-loop-k l = record {
  len : length l.words ≡ length l.fn.words;
  added : (j : ℕ) → j < l.k → slice_index_or l.words j 0 ≡ bit_or (slice_index_or l.fn.words j 0) (slice_index_or l.others j 0);
  same : (j : ℕ) → l.k ≤ j → slice_index_or l.words j 0 ≡ slice_index_or l.fn.words j 0;
}
