-- The calls that were made of a reader or a writer, the last first.
use Rattle.std.specs.Prelude.{ℕ, ◌+◌, Bool, false, List, [], ◌∷◌, ◌++◌, slice_index, ◌==◌, if◌then◌else◌, ◌-◌, Option, Some, None, length, take, drop}
use Rattle.trace_types.specs.text.Name.{is_same}
use Rattle.std.specs.Io.KnownBytes.{prepend_known}
use Rattle.line_protocol.specs.Source.{Given}
use Rattle.line_protocol.specs.Sink.{Taken}
use Rattle.line_protocol.specs.Patience.{SinkCall, Took, WriteInterrupted, FlushInterrupted, FlushDone, CallFailed}

-- how a call ended: 0 it moved bytes, 1 it moved none of some, 2 it failed, 3 it was interrupted, 4 it flushed,
-- 5 it flushed and was interrupted
pub record EdgeCall : Type 0 where
  pub ending : ℕ
  pub bytes : List ℕ

abbrev pub edge_call_of : List ℕ → List ℕ → EdgeCall
edge_call_of ending bytes = record { ending = slice_index ending 0; bytes = bytes }

-- all bytes that were moved
abbrev pub bytes_moved : List EdgeCall → List ℕ
bytes_moved [] = []
bytes_moved (call ∷ earlier) = bytes_moved earlier ++ call.bytes

-- whether the last call moved none of some bytes
abbrev pub is_last_empty : List EdgeCall → Bool
is_last_empty [] = false
is_last_empty (call ∷ earlier) = call.ending == 1

-- whether the last call flushed
abbrev pub is_last_flush : List EdgeCall → Bool
is_last_flush [] = false
is_last_flush (call ∷ earlier) = call.ending == 4

-- how many calls ended so
abbrev pub endings : ℕ → List EdgeCall → ℕ
endings ending [] = 0
endings ending (call ∷ earlier) = endings ending earlier + (if call.ending == ending then 1 else 0)

-- how many calls there were
abbrev pub call_count : List EdgeCall → ℕ
call_count [] = 0
call_count (call ∷ earlier) = call_count earlier + 1

-- what was seen of a reader, of which these bytes are left, where it can tell
abbrev pub given_by : List EdgeCall → Option (List ℕ) → Given
given_by calls left = record {
  bytes = bytes_moved calls;
  whole = prepend_known (bytes_moved calls) left;
  has_ended = is_last_empty calls;
  ends = endings 1 calls;
  reads = call_count calls;
  failures = endings 2 calls;
  interruptions = endings 3 calls;
}

-- what a writer held before it took these bytes, if it can tell what it holds and that ends with them
abbrev pub held_before : List ℕ → Option (List ℕ) → Option (List ℕ)
held_before bytes None = None
held_before bytes (Some contents) =
    if is_same (drop (length contents - length bytes) contents) bytes then Some (take (length contents - length bytes) contents) else None

-- the call of a writer, as a sink's
abbrev pub sink_call : EdgeCall → SinkCall
sink_call call =
    if call.ending == 0 then Took (length call.bytes)
    else if call.ending == 3 then WriteInterrupted
    else if call.ending == 4 then FlushDone
    else if call.ending == 5 then FlushInterrupted
    else CallFailed

abbrev pub sink_calls : List EdgeCall → List SinkCall
sink_calls [] = []
sink_calls (call ∷ earlier) = sink_call call ∷ sink_calls earlier

-- what was seen of a writer, by what it holds and its calls
abbrev pub taken_by : Option (List ℕ) → List EdgeCall → Taken
taken_by contents calls = record {
  bytes = bytes_moved calls;
  began = held_before (bytes_moved calls) contents;
  is_flushed = is_last_flush calls;
  failures = endings 1 calls + endings 2 calls;
  interruptions = endings 3 calls + endings 5 calls;
  calls = sink_calls calls;
}
