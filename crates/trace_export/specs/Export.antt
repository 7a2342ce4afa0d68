-- The lines of an export, and what a call that writes them leaves.
use Rattle.std.specs.Prelude.{◌≡◌, ℕ, suc, ◌-◌, ◌<◌, ◌≤◌, List, [], ◌∷◌, ◌++◌, length}
use Rattle.std.specs.List.{concat, slice_index_or}
use Rattle.std.specs.Io.KnownBytes.{Keeps}
use Rattle.trace_types.specs.text.Name.{Text}
use Rattle.trace_types.specs.declared.row.Row.{Row}
use Rattle.line_protocol.specs.Patience.{flush_calls}
use Rattle.line_protocol.specs.Sink.{Taken}
use Rattle.line_protocol.specs.TextsInTurn.{WritesTexts, BeginsFirst, BreaksOffAt}
use Rattle.line_protocol.specs.declared.stream_fault.StreamFault.{StreamFault}
use Rattle.line_protocol.specs.declared.stream_fault.StreamFault.TheVariants as stream
use Rattle.trace_export.specs.Heading.{header_line}
use Rattle.trace_export.specs.Listing.{Listed, IsReadAgain, listed_line}
use Rattle.trace_export.specs.declared.export_fault.ExportFault.{ExportFault}
use Rattle.trace_export.specs.declared.export_fault.ExportFault.TheVariants.{Write, Memory}
use Rattle.trace_export.specs.declared.header.Header.{Header}

-- what is listed of an event: its number, its row and its stamp's text
abbrev pub listed_row : ℕ → Row → Text → Listed
listed_row event row stamp = record {
  event = event;
  kind = row.kind;
  name = row.name;
  preds = row.preds;
  stamp = stamp;
  task = row.task;
}

-- the text of the event's stamp; of no event it is not asked
abbrev pub stamp_at : List Text → ℕ → Text
stamp_at stamps event = slice_index_or stamps (event - 1) []

-- the lines of these rows, which come after so many events
abbrev pub lines_after : ℕ → List Row → List Text → List Text
lines_after count [] stamps = []
lines_after count (row ∷ rows) stamps =
    listed_line (listed_row (suc count) row (stamp_at stamps (suc count))) ∷ lines_after (suc count) rows stamps

-- the lines of an export: its header and one for each row, each with its end
abbrev pub export_lines : Header → List Row → List Text → List Text
export_lines header rows stamps = header_line header ∷ lines_after 0 rows stamps

-- each of these rows, which come after so many events, is read again from its line
abbrev pub AreReadAgain : ℕ → List Row → List Text → Type 0
AreReadAgain count [] stamps = Unit {0}
AreReadAgain count (row ∷ rows) stamps =
    IsReadAgain (listed_row (suc count) row (stamp_at stamps (suc count))) × AreReadAgain (suc count) rows stamps

-- the text of an export
abbrev pub export_text : Header → List Row → List Text → Text
export_text header rows stamps = concat (export_lines header rows stamps)

-- These lines were written, one behind the other and each with patience of its own, and no call failed or flushed.
pub record WritesLines (before after : Taken) (lines : List Text) : Type 0 where
  pub grows : after.bytes ≡ before.bytes ++ concat lines
  pub patient : WritesTexts before.calls after.calls lines
  pub no_flush : flush_calls after.calls ≡ flush_calls before.calls
  pub failures : after.failures ≡ before.failures
  pub more : before.interruptions ≤ after.interruptions
  pub began : Keeps before.began after.began

-- Some of these lines were written, each patiently, and a prefix of the next; then this fault came. No call flushed.
pub record BreaksLines (fault : ExportFault) (before after : Taken) (lines : List Text) : Type 0 where
  pub whole : List Text
  pub left : List Text
  pub begun : Text
  pub parts : lines ≡ whole ++ left
  pub some_left : 0 < length left
  pub begins : BeginsFirst begun left
  pub grows : after.bytes ≡ before.bytes ++ (concat whole ++ begun)
  pub patient : WritesTexts before.calls after.calls whole
  pub no_flush : flush_calls after.calls ≡ flush_calls before.calls
  pub write : fault ≡ Write → BreaksOffAt (length (concat whole)) left patient.more
  pub memory : fault ≡ Memory → (begun ≡ []) × (after.failures ≡ before.failures)
  pub began : Keeps before.began after.began

-- the fault of work that reads and writes that one of writing an export is
abbrev pub stream_fault_of_export : ExportFault → StreamFault
stream_fault_of_export Write = stream.Write
stream_fault_of_export Memory = stream.Memory
