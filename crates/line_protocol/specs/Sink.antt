-- What is seen of a sink, and what one call adds.
use Rattle.std.specs.Prelude.{◌≡◌, ℕ, ◌+◌, Result, Bool, IsTrue, OnOk, ◌&&◌, List, [], ◌++◌, length, take, Ok, Err, ◌∷◌, Option, drop, ◌==◌, nat_lt, if◌then◌else◌}
use Rattle.std.specs.Io.KnownBytes.{Keeps}
use Rattle.line_protocol.specs.declared.stop.Stop.{Stop}
use Rattle.line_protocol.specs.declared.stop.Stop.TheVariants.{Interrupted, Failed}
use Rattle.line_protocol.specs.Patience.{SinkCall, Took, WriteInterrupted, FlushInterrupted, FlushDone, CallFailed}
use Rattle.line_protocol.specs.Source.{failure_count, failure_count_of, interruption_count}

-- what a sink took, and how its calls ended
pub record Taken : Type 0 where
  -- all bytes that it took
  pub bytes : List ℕ
  -- what it held before all of them, where it can tell
  pub began : Option (List ℕ)
  -- whether it has handed on all of them
  pub is_flushed : Bool
  -- how many calls failed, or took no byte of some
  pub failures : ℕ
  -- how many calls were interrupted
  pub interruptions : ℕ
  -- its calls, the last first
  pub calls : List SinkCall

-- the bytes that a write took
abbrev pub bytes_taken : Result ℕ Stop → List ℕ → List ℕ
bytes_taken (Ok n) bytes = take n bytes
bytes_taken (Err stop) bytes = []

-- how many failures a write adds: one also where it took no byte of some
abbrev pub write_failure_count : Result ℕ Stop → List ℕ → ℕ
write_failure_count (Ok n) bytes = if (n == 0) && nat_lt 0 (length bytes) then 1 else 0
write_failure_count (Err stop) bytes = failure_count_of stop

-- the call that a write was
abbrev pub stopped_write : Stop → SinkCall
stopped_write Interrupted = WriteInterrupted
stopped_write Failed = CallFailed

abbrev pub write_call : Result ℕ Stop → List ℕ → SinkCall
write_call (Ok n) bytes = if (n == 0) && nat_lt 0 (length bytes) then CallFailed else Took n
write_call (Err stop) bytes = stopped_write stop

-- the call that a flush was
abbrev pub stopped_flush : Stop → SinkCall
stopped_flush Interrupted = FlushInterrupted
stopped_flush Failed = CallFailed

abbrev pub flush_call : Result Unit Stop → SinkCall
flush_call (Ok done) = FlushDone
flush_call (Err stop) = stopped_flush stop

-- One write of these bytes was made.
pub record WritesOnce (before after : Taken) (result : Result ℕ Stop) (bytes : List ℕ) : Type 0 where
  pub taken : after.bytes ≡ before.bytes ++ bytes_taken result bytes
  pub failures : after.failures ≡ before.failures + write_failure_count result bytes
  pub interruptions : after.interruptions ≡ before.interruptions + interruption_count result
  pub call : after.calls ≡ write_call result bytes ∷ before.calls
  pub began : Keeps before.began after.began

-- One flush was made.
pub record FlushesOnce (before after : Taken) (result : Result Unit Stop) : Type 0 where
  pub taken : after.bytes ≡ before.bytes
  pub flushed : OnOk result (IsTrue after.is_flushed)
  pub failures : after.failures ≡ before.failures + failure_count result
  pub interruptions : after.interruptions ≡ before.interruptions + interruption_count result
  pub call : after.calls ≡ flush_call result ∷ before.calls
  pub began : Keeps before.began after.began

-- Two texts, of which the first has this length, were taken whole, each by a write.
pub record TakesBoth (before after : Taken) (first_len : ℕ) (text : List ℕ) : Type 0 where
  pub taken : after.bytes ≡ before.bytes ++ text
  pub failures : after.failures ≡ before.failures
  pub interruptions : after.interruptions ≡ before.interruptions
  pub calls : after.calls ≡ Took (length (drop first_len text)) ∷ Took (length (take first_len text)) ∷ before.calls
  pub began : Keeps before.began after.began
