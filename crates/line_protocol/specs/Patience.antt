-- The calls of a sink, the last first, and how patiently they write.
use Rattle.std.specs.Prelude.{◌≡◌, ℕ, suc, zero, ◌+◌, ◌<◌, ◌⊎◌, Bool, true, false, IsTrue, ◌&&◌, nat_le, nat_lt, if◌then◌else◌, List, [], ◌∷◌, ◌++◌, length}
use Rattle.trace_types.specs.text.Name.{Text}

-- how one call of a sink ended
pub data SinkCall : Type 0 where
  -- a write took so many bytes
  Took : (count : ℕ) → SinkCall
  -- a write was interrupted
  WriteInterrupted : SinkCall
  -- a flush was interrupted
  FlushInterrupted : SinkCall
  -- a flush handed on all
  FlushDone : SinkCall
  -- a call failed, or a write took no byte of some
  CallFailed : SinkCall

-- how many bytes the calls took
abbrev pub bytes_taken_by : List SinkCall → ℕ
bytes_taken_by [] = 0
bytes_taken_by (Took count ∷ earlier) = bytes_taken_by earlier + count
bytes_taken_by (call ∷ earlier) = bytes_taken_by earlier

-- how many of them failed
abbrev pub failed_calls : List SinkCall → ℕ
failed_calls [] = 0
failed_calls (CallFailed ∷ earlier) = failed_calls earlier + 1
failed_calls (call ∷ earlier) = failed_calls earlier

-- how many writes were interrupted
abbrev pub write_waits : List SinkCall → ℕ
write_waits [] = 0
write_waits (WriteInterrupted ∷ earlier) = write_waits earlier + 1
write_waits (call ∷ earlier) = write_waits earlier

-- how many flushes were interrupted
abbrev pub flush_waits : List SinkCall → ℕ
flush_waits [] = 0
flush_waits (FlushInterrupted ∷ earlier) = flush_waits earlier + 1
flush_waits (call ∷ earlier) = flush_waits earlier

-- how many of them flushed; a failed one did not
abbrev pub flush_calls : List SinkCall → ℕ
flush_calls [] = 0
flush_calls (FlushInterrupted ∷ earlier) = flush_calls earlier + 1
flush_calls (FlushDone ∷ earlier) = flush_calls earlier + 1
flush_calls (call ∷ earlier) = flush_calls earlier

-- how many of the last calls were interrupted flushes
abbrev pub last_flush_waits : List SinkCall → ℕ
last_flush_waits (FlushInterrupted ∷ earlier) = last_flush_waits earlier + 1
last_flush_waits calls = 0

-- how many writes were interrupted since a byte was taken last
abbrev pub waits_since_bytes : List SinkCall → ℕ
waits_since_bytes [] = 0
waits_since_bytes (Took zero ∷ earlier) = waits_since_bytes earlier
waits_since_bytes (Took (suc count) ∷ earlier) = 0
waits_since_bytes (WriteInterrupted ∷ earlier) = waits_since_bytes earlier + 1
waits_since_bytes (call ∷ earlier) = waits_since_bytes earlier

-- whether the last call failed
abbrev pub is_last_failed : List SinkCall → Bool
is_last_failed (CallFailed ∷ earlier) = true
is_last_failed calls = false

-- The last call failed, and none before it.
abbrev pub HasFailed : List SinkCall → Type 0
HasFailed calls = IsTrue (is_last_failed calls) × (failed_calls calls ≡ 1)

-- whether a place is at `from` or behind it, and before `to`
abbrev pub is_inside : ℕ → ℕ → ℕ → Bool
is_inside from to place = nat_le from place && nat_lt place to

-- how many writes were interrupted when at least `from` and fewer than `to` bytes had been taken
abbrev pub waits_between : ℕ → ℕ → List SinkCall → ℕ
waits_between from to [] = 0
waits_between from to (WriteInterrupted ∷ earlier) =
    waits_between from to earlier + (if is_inside from to (bytes_taken_by earlier) then 1 else 0)
waits_between from to (call ∷ earlier) = waits_between from to earlier

-- While each of these texts was written, one behind the other from this place on, fewer than 1048576 writes were interrupted.
abbrev pub EachPatiently : ℕ → List Text → List SinkCall → Type 0
EachPatiently from [] calls = Unit {0}
EachPatiently from (text ∷ texts) calls =
    (waits_between from (from + length text) calls < 1048576) × EachPatiently (from + length text) texts calls

-- A text of so many bytes was written by these calls and no other: none of them failed or flushed, fewer than 1048576
-- were interrupted, and each of those before the last byte was taken.
pub record WritesPatiently (before after : List SinkCall) (count : ℕ) : Type 0 where
  pub more : List SinkCall
  pub calls : after ≡ more ++ before
  pub taken : bytes_taken_by more ≡ count
  pub none_failed : failed_calls more ≡ 0
  pub few : write_waits more < 1048576
  pub none_idle : 0 < count → waits_since_bytes more ≡ 0
  pub no_flush : flush_calls more ≡ 0

-- Fewer bytes were written by these calls, and none of them flushed: the last failed and none before it, or none failed
-- and 1048576 were interrupted.
pub record GivesUpWriting (before after : List SinkCall) (count : ℕ) : Type 0 where
  pub more : List SinkCall
  pub calls : after ≡ more ++ before
  pub taken : bytes_taken_by more < count
  pub no_flush : flush_calls more ≡ 0
  pub fault : (HasFailed more × (write_waits more < 1048576)) ⊎ ((failed_calls more ≡ 0) × (write_waits more ≡ 1048576))

-- Nothing was written by these calls, none failed, and fewer than 1048576 flushes were interrupted, none of them last.
pub record FlushesPatiently (before after : List SinkCall) : Type 0 where
  pub more : List SinkCall
  pub calls : after ≡ more ++ before
  pub taken : bytes_taken_by more ≡ 0
  pub none_failed : failed_calls more ≡ 0
  pub no_write : write_waits more ≡ 0
  pub few : flush_waits more < 1048576
  pub done : last_flush_waits more ≡ 0

-- Nothing was written by these calls: the last failed and none before it, or all are the 1048576 flushes that were interrupted.
pub record GivesUpFlushing (before after : List SinkCall) : Type 0 where
  pub more : List SinkCall
  pub calls : after ≡ more ++ before
  pub taken : bytes_taken_by more ≡ 0
  pub no_write : write_waits more ≡ 0
  pub fault : (HasFailed more × (flush_waits more < 1048576)) ⊎ ((failed_calls more ≡ 0) × (last_flush_waits more ≡ 1048576))
