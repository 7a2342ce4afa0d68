-- What a load leaves, of what its reader and its writer had before and after.
use Rattle.std.specs.Prelude.{◌≡◌, ◌≢◌, ℕ, ◌⊎◌, IsTrue, List, [], ◌++◌, length, map, Option, Some}
use Rattle.std.specs.List.{range_with_len}
use Rattle.trace_types.specs.clock.Stamps.{stamp_text_of}
use Rattle.trace_types.specs.tenant.Limits.{Limits}
use Rattle.trace_types.specs.tenant.Rows.{history_of, row_of}
use Rattle.trace_types.specs.tenant.Tenant.{after as tenant_after, fresh, replies}
use Rattle.trace_types.specs.text.Lines.{lines}
use Rattle.trace_types.specs.text.Name.{Text}
use Rattle.trace_types.specs.declared.reply.Reply.TheVariants.{Accepted}
use Rattle.trace_types.specs.declared.row.Row.{Row}
use Rattle.line_protocol.specs.Sink.{Taken}
use Rattle.line_protocol.specs.Source.{Given}
use Rattle.line_protocol.specs.declared.stream_fault.StreamFault.{StreamFault}
use Rattle.line_protocol.specs.declared.stream_fault.StreamFault.TheVariants.{Write}
use Rattle.trace_export.specs.Export.{BreaksLines, WritesLines, listed_row, stream_fault_of_export}
use Rattle.trace_export.specs.Heading.{AreParts}
use Rattle.trace_export.specs.Laws.{event_line}
use Rattle.trace_export.specs.Listing.{ListsAs}
use Rattle.trace_export.specs.Loading.{IsLoaded, limits_under, request_lines, row_request, tenant_with}
use Rattle.trace_export.specs.ReadTo.{StopsAtLine, WasReadTo, WasReadToEnd}
use Rattle.trace_export.specs.Verdict.{IsVerdict}
use Rattle.trace_export.specs.declared.export_fault.ExportFault.{ExportFault}
use Rattle.trace_export.specs.declared.header.Header.{Header}
use Rattle.trace_export.specs.declared.loaded.Loaded.{Loaded}
use Rattle.trace_export.specs.declared.loaded.Loaded.TheVariants.{Done, No}
use Rattle.trace_export.specs.declared.verdict.Verdict.TheVariants.{Yes}

-- The requests of these rows, run from nothing under the limits, are all accepted, and leave them.
pub record RunsAnew (limits : Limits) (rows : List Row) : Type 0 where
  pub accepted : replies (fresh limits) (map row_request rows) ≡ map Accepted (range_with_len 1 (length rows))
  pub leaves : tenant_after (fresh limits) (map row_request rows) ≡ tenant_with limits rows

-- the line of each event lists its row and its stamp, as these rows have them
abbrev pub ListEachEvent : List Text → List Row → Type 0
ListEachEvent events rows = (event : ℕ) (row : Row) → row_of (history_of rows) event ≡ Some row
    → ListsAs (event_line events event) (listed_row event row (stamp_text_of (history_of rows) event))

-- The bytes are the export of these rows, and requests make these under the limits of its header, or without one under the
-- greatest. So a check of the bytes says yes.
pub record IsExportOfRun (bytes : List ℕ) (count : ℕ) (rows : List Row) : Type 0 where
  pub header : Option Header
  pub events : List Text
  pub parts : AreParts (lines bytes) header events
  pub counted : (count ≡ length events) × (count ≡ length rows)
  pub listed : ListEachEvent events rows
  pub runs : RunsAnew (limits_under header) rows
  pub verdict : IsVerdict bytes (Yes count)

-- All that the answer speaks of was read: the input to its end, or the faulty line to its own.
abbrev pub SawAllOf : (before after : Given) → (came : List ℕ) → Loaded → Type 0
SawAllOf before after came (Done count) = WasReadToEnd before after
SawAllOf before after came (No number reason) = WasReadTo number came before after

-- What the reader gave is loaded so, with all that it may give after it. These rows are left if no line is faulty.
pub record LoadsAs (before after : Given) (loaded : Loaded) (rows : List Row) : Type 0 where
  pub came : List ℕ
  pub grows : after.bytes ≡ before.bytes ++ came
  pub all : SawAllOf before after came loaded
  pub is_due : (rest : List ℕ) → (IsTrue after.has_ended → rest ≡ []) → IsLoaded (came ++ rest) loaded rows

-- Nothing behind the faulty line was asked for, if there is one.
abbrev pub StopsLoading : {R : Type 0} (seen : R → Given) (reader reader' : R) → Loaded → Type 0
StopsLoading seen reader reader' (Done count) = Unit {0}
StopsLoading seen reader reader' (No number reason) = StopsAtLine seen number reader reader'

-- the bytes are the export of these rows if all is done
abbrev pub IsExportWhereDone : List ℕ → Loaded → List Row → Type 0
IsExportWhereDone bytes (Done count) rows = IsExportOfRun bytes count rows
IsExportWhereDone bytes (No number reason) rows = Unit {0}

-- The requests of these rows were written if all is done. Else the writer was not called.
abbrev pub WritesWhereDone : Taken → Taken → Text → Loaded → List Row → Type 0
WritesWhereDone taken taken' tenant (Done count) rows = WritesLines taken taken' (request_lines tenant rows)
WritesWhereDone taken taken' tenant (No number reason) rows = taken' ≡ taken

-- What the reader gave was loaded, and the requests of the rows that it is the export of were written to this tenant.
pub record Loads (before after : Given) (taken taken' : Taken) (tenant : Text) (loaded : Loaded) : Type 0 where
  pub rows : List Row
  pub loads : LoadsAs before after loaded rows
  pub is_export : IsExportWhereDone loads.came loaded rows
  pub writes : WritesWhereDone taken taken' tenant loaded rows

-- All that the reader had was loaded. Some whole lines of the requests to this tenant were written, and a prefix of the
-- next one. Then this fault came.
pub record LoadsInPart (fault : StreamFault) (before after : Given) (taken taken' : Taken) (tenant : Text) : Type 0 where
  pub cause : ExportFault
  pub told : fault ≡ stream_fault_of_export cause
  pub count : ℕ
  pub rows : List Row
  pub loads : LoadsAs before after (Done count) rows
  pub is_export : IsExportOfRun loads.came count rows
  pub breaks : BreaksLines cause taken taken' (request_lines tenant rows)

-- The fault came while the lines were read, and nothing was written; or while the requests were.
abbrev pub BreaksLoading : StreamFault → (before after : Given) (taken taken' : Taken) → Text → Type 0
BreaksLoading fault before after taken taken' tenant =
    ((taken' ≡ taken) × (fault ≢ Write)) ⊎ LoadsInPart fault before after taken taken' tenant
