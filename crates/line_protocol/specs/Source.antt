-- What is seen of a source, and what one read adds.
use Rattle.std.specs.Prelude.{◌≡◌, ℕ, ◌+◌, Result, Option, IfSome, Bool, IsTrue, ◌⊎◌, true, false, ◌&&◌, List, [], ◌++◌, length, take, Ok, Err, ◌==◌, nat_lt}
use Rattle.std.specs.Io.KnownBytes.{Keeps}
use Rattle.line_protocol.specs.declared.stop.Stop.{Stop}
use Rattle.line_protocol.specs.declared.stop.Stop.TheVariants.{Interrupted, Failed}

-- what a source gave, and how its reads ended
pub record Given : Type 0 where
  -- all bytes that it gave
  pub bytes : List ℕ
  -- all bytes that it gave and will give, where it can tell
  pub whole : Option (List ℕ)
  -- whether its last read told the end of its input
  pub has_ended : Bool
  -- how many reads told the end
  pub ends : ℕ
  -- how many reads were made
  pub reads : ℕ
  -- how many of them failed; an interrupted one did not
  pub failures : ℕ
  -- how many of them were interrupted
  pub interruptions : ℕ

-- 1 where it is so
abbrev pub one_if : Bool → ℕ
one_if true = 1
one_if false = 0

-- the bytes that a read into the buffer gave
abbrev pub bytes_given : Result ℕ Stop → List ℕ → List ℕ
bytes_given (Ok n) buffer = take n buffer
bytes_given (Err stop) buffer = []

-- how many they are
abbrev pub bytes_read : Result ℕ Stop → ℕ
bytes_read (Ok n) = n
bytes_read (Err stop) = 0

-- whether a read gave no byte, and did not stop
abbrev pub gives_none : Result ℕ Stop → Bool
gives_none (Ok n) = n == 0
gives_none (Err stop) = false

-- A read tells the end where it gives no byte though there is room.
abbrev pub tells_end : Result ℕ Stop → List ℕ → Bool
tells_end result buffer = gives_none result && nat_lt 0 (length buffer)

-- how many failures a call adds; an interruption is none
abbrev pub failure_count_of : Stop → ℕ
failure_count_of Interrupted = 0
failure_count_of Failed = 1

abbrev pub failure_count : {A : Type 0} → Result A Stop → ℕ
failure_count (Ok value) = 0
failure_count (Err stop) = failure_count_of stop

-- how many interruptions a call adds
abbrev pub interruption_count_of : Stop → ℕ
interruption_count_of Interrupted = 1
interruption_count_of Failed = 0

abbrev pub interruption_count : {A : Type 0} → Result A Stop → ℕ
interruption_count (Ok value) = 0
interruption_count (Err stop) = interruption_count_of stop

-- It gave all its bytes, where it can tell them.
abbrev pub GaveAll : Given → Type 0
GaveAll given = IfSome given.whole (λ whole. given.bytes ≡ whole)

-- One read was made into the buffer.
pub record ReadsOnce (before after : Given) (result : Result ℕ Stop) (buffer : List ℕ) : Type 0 where
  pub bytes : after.bytes ≡ before.bytes ++ bytes_given result buffer
  pub whole : Keeps before.whole after.whole
  pub all : IsTrue after.has_ended → GaveAll after
  pub has_ended : after.has_ended ≡ tells_end result buffer
  pub ends : after.ends ≡ before.ends + one_if (tells_end result buffer)
  pub reads : after.reads ≡ before.reads + 1
  pub failures : after.failures ≡ before.failures + failure_count result
  pub interruptions : after.interruptions ≡ before.interruptions + interruption_count result

-- It told the end, and had given all its bytes.
abbrev pub HasToldEnd : Given → Type 0
HasToldEnd given = IsTrue given.has_ended × GaveAll given

-- One read was made, which failed so many times and told the end or not, whatever bytes it gave.
pub record CountsRead (before after : Given) (failed : ℕ) (tells : Bool) : Type 0 where
  pub reads : after.reads ≡ before.reads + 1
  pub failures : after.failures ≡ before.failures + failed
  pub ends : after.ends ≡ before.ends + one_if tells
  pub whole : Keeps before.whole after.whole
  pub ended : IsTrue tells → HasToldEnd after

-- The last read began when this held of the bytes that the source had given.
pub record LastRead {R : Type 0} (seen : R → Given) (source : R) (Holds : List ℕ → Type 0) : Type 0 where
  pub earlier : R
  pub held : Holds (seen earlier).bytes
  pub once : (seen source).reads ≡ (seen earlier).reads + 1

-- Nothing was read after a read that told the end.
abbrev pub StopsAtEnd : Given → Given → Type 0
StopsAtEnd before after = (after.ends ≡ before.ends) ⊎ ((after.ends ≡ before.ends + 1) × IsTrue after.has_ended)
