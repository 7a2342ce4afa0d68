-- What calls that write leave, at a fault too.
use Rattle.std.specs.Prelude.{◌≡◌, ℕ, ◌+◌, ◌≤◌, ◌<◌, Result, Ok, Err, OnErr, IsTrue, List, ◌++◌, ◌⊎◌, length}
use Rattle.trace_types.specs.text.Name.{Text}
use Rattle.std.specs.Io.KnownBytes.{Keeps}
use Rattle.line_protocol.specs.Patience.{SinkCall, bytes_taken_by, failed_calls, write_waits, flush_calls, is_last_failed, WritesPatiently, GivesUpWriting, FlushesPatiently, GivesUpFlushing}
use Rattle.line_protocol.specs.Sink.{Taken}

-- Of the text a front was written, and not all of it.
pub record WritesFront (old new text : List ℕ) : Type 0 where
  pub written : List ℕ
  pub rest : List ℕ
  pub grows : new ≡ old ++ written
  pub front : text ≡ written ++ rest
  pub some_left : 0 < length rest

-- The last call failed, and before it fewer than 1048576 were interrupted; or the last one was the 1048576th that was
-- interrupted, and none failed.
abbrev pub IsWriteFault : Taken → Taken → Type 0
IsWriteFault before after =
    ((after.failures ≡ before.failures + 1) × (after.interruptions < before.interruptions + 1048576))
    ⊎ ((after.failures ≡ before.failures) × (after.interruptions ≡ before.interruptions + 1048576))

-- No call failed, and fewer than 1048576 were interrupted.
pub record GoesWell (before after : Taken) : Type 0 where
  pub failures : after.failures ≡ before.failures
  pub more : before.interruptions ≤ after.interruptions
  pub few : after.interruptions < before.interruptions + 1048576
  pub began : Keeps before.began after.began

-- A fault came.
pub record GoesWrong (before after : Taken) : Type 0 where
  pub more : before.interruptions ≤ after.interruptions
  pub fault : IsWriteFault before after
  pub began : Keeps before.began after.began

-- The text was written.
abbrev pub WritesWhole : Taken → Taken → Text → Type 0
WritesWhole before after text =
    (after.bytes ≡ before.bytes ++ text) × GoesWell before after × WritesPatiently before.calls after.calls (length text)

-- A fault came, and a front of the text was written.
abbrev pub WritesPart : Taken → Taken → Text → Type 0
WritesPart before after text =
    WritesFront before.bytes after.bytes text × GoesWrong before after × GivesUpWriting before.calls after.calls (length text)

-- The text was written, or at a fault a front of it.
abbrev pub Writes : {A E : Type 0} → Taken → Taken → Result A E → Text → Type 0
Writes before after (Ok done) text = WritesWhole before after text
Writes before after (Err fault) text = WritesPart before after text

-- Two texts were written, each with patience of its own; or a fault came in the first, or in the second.
abbrev pub WritesBoth : {A E : Type 0} → Taken → Taken → Result A E → Text → Text → Type 0
WritesBoth before after (Ok done) first second =
    (between : Taken) × WritesWhole before between first × WritesWhole between after second
WritesBoth before after (Err fault) first second =
    WritesPart before after first
    ⊎ ((between : Taken) × WritesWhole before between first × WritesPart between after second)

-- What was written was handed on.
abbrev pub HandsAllOn : Taken → Taken → Type 0
HandsAllOn before after =
    (after.bytes ≡ before.bytes) × IsTrue after.is_flushed × GoesWell before after × FlushesPatiently before.calls after.calls

-- A fault came while it was handed on.
abbrev pub StopsHandingOn : Taken → Taken → Type 0
StopsHandingOn before after = (after.bytes ≡ before.bytes) × GoesWrong before after × GivesUpFlushing before.calls after.calls

-- What was written was handed on, unless a fault came.
abbrev pub Flushes : {A E : Type 0} → Taken → Taken → Result A E → Type 0
Flushes before after (Ok done) = HandsAllOn before after
Flushes before after (Err fault) = StopsHandingOn before after

-- The text was written, or at a fault a front of it, whatever patience it took.
abbrev pub WritesText : {A E : Type 0} → Taken → Taken → Result A E → Text → Type 0
WritesText before after (Ok done) text = after.bytes ≡ before.bytes ++ text
WritesText before after (Err fault) text = WritesFront before.bytes after.bytes text

-- Of the text that is held and one behind it a front was written, and the rest is held.
pub record Gathers (old new held held' text : List ℕ) : Type 0 where
  pub written : List ℕ
  pub grows : new ≡ old ++ written
  pub splits : held ++ text ≡ written ++ held'

-- The text was written or is held, behind what was held; or at a fault a front of it was written.
abbrev pub GathersText : {A E : Type 0} → Taken → Taken → Text → Text → Result A E → Text → Type 0
GathersText before after held held' (Ok done) text = Gathers before.bytes after.bytes held held' text
GathersText before after held held' (Err fault) text = WritesFront before.bytes after.bytes (held ++ text)

-- Each interruption takes some of the patience, and a fault is a failure or the end of patience.
abbrev pub Spends : {A E : Type 0} → Taken → Taken → ℕ → ℕ → Result A E → Type 0
Spends before after patience patience' (Ok done) =
    (after.failures ≡ before.failures) × (before.interruptions ≤ after.interruptions)
    × (after.interruptions + patience' ≡ before.interruptions + patience) × (0 < patience')
Spends before after patience patience' (Err fault) =
    (before.interruptions ≤ after.interruptions) × (after.interruptions + patience' ≡ before.interruptions + patience)
    × (((after.failures ≡ before.failures + 1) × (0 < patience')) ⊎ ((after.failures ≡ before.failures) × (patience' ≡ 0)))

-- In between only writes were made, these calls of the sink.
pub record OnlyWrites (before after : Taken) : Type 0 where
  pub more : List SinkCall
  pub calls : after.calls ≡ more ++ before.calls
  pub taken : length after.bytes ≡ length before.bytes + bytes_taken_by more
  pub failures : after.failures ≡ before.failures + failed_calls more
  pub interruptions : after.interruptions ≡ before.interruptions + write_waits more
  pub no_flush : flush_calls more ≡ 0
  pub began : Keeps before.began after.began

-- In between only writes were made, with so much patience, of which this is left. A failure came last.
pub record TriesToWrite {A E : Type 0} (before after : Taken) (patience patience' : ℕ) (result : Result A E) : Type 0 where
  pub only : OnlyWrites before after
  pub spent : Spends before after patience patience' result
  pub failed : OnErr result (0 < patience' → IsTrue (is_last_failed after.calls))

-- Over several pieces: the last call failed, and none before it; or none failed, and 1048576 or more were interrupted.
abbrev pub EndsInFault : Taken → Taken → Type 0
EndsInFault before after =
    (after.failures ≡ before.failures + 1)
    ⊎ ((after.failures ≡ before.failures) × (before.interruptions + 1048576 ≤ after.interruptions))
