-- What a replay did that writes an export in place of replies.
use Rattle.std.specs.Prelude.{◌≡◌, ◌≢◌, ℕ, ◌⊎◌, Bool, IsTrue, List, ◌++◌, length, map, IfSome, Some, option_map, slice_get}
use Rattle.std.specs.Io.KnownBytes.{Keeps}
use Rattle.trace_types.specs.text.Name.{Text}
use Rattle.trace_types.specs.text.Lines.{lines}
use Rattle.trace_types.specs.tenant.Rows.{events, history_of}
use Rattle.trace_types.specs.tenant.Tenant.{Tenant}
use Rattle.trace_types.specs.clock.Stamps.{stamp_text_of}
use Rattle.trace_types.specs.world.Interleaving.{Call, tenant_after}
use Rattle.trace_types.specs.world.World.{World, IsAfter}
use Rattle.trace_types.specs.world.Replay.{calls_by, entries}
use Rattle.trace_types.specs.declared.row.Row.{Row}
use Rattle.line_protocol.specs.Ends.{end_count}
use Rattle.line_protocol.specs.Source.{Given}
use Rattle.line_protocol.specs.Sink.{Taken}
use Rattle.line_protocol.specs.Writing.{HandsAllOn, StopsHandingOn}
use Rattle.trace_export.specs.Export.{BreaksLines, WritesLines, export_lines}
use Rattle.trace_export.specs.Verdict.{IsVerdict}
use Rattle.trace_export.specs.declared.verdict.Verdict.TheVariants.{Yes}
use Rattle.trace_export.specs.declared.export_fault.ExportFault.TheVariants as export
use Rattle.trace_export.specs.declared.header.Header.{Header}
use Rattle.trace_world.specs.Replayed.{AreFirstLines, LeadsTo}
use Rattle.trace_world.specs.declared.counts.Counts.{Counts}
use Rattle.line_protocol.specs.declared.stream_fault.StreamFault.{StreamFault}
use Rattle.line_protocol.specs.declared.stream_fault.StreamFault.TheVariants.{Write, Memory}

-- the texts of the stamps of all events of these rows, the first first
abbrev pub stamp_texts : List Row → List Text
stamp_texts rows = map (stamp_text_of (history_of rows)) (events (history_of rows))

-- the header is that of the tenant at this place
abbrev pub IsHeaderOf : World → ℕ → Header → Type 0
IsHeaderOf world tenant header = (slice_get world.names tenant ≡ Some header.tenant) × (header.limits ≡ world.limits)

-- the lines of the export of these rows, with this header
abbrev pub export_of : Header → List Row → List Text
export_of header rows = export_lines header rows (stamp_texts rows)

-- These lines of all tenants, with these marks, lead from the old world to the new one, whatever was to be answered.
abbrev pub LeadsThere : World → List Text → List Bool → World → Type 0
LeadsThere old found marks new = (text : Text) × (counts : Counts) × LeadsTo old found marks text counts new

-- All that the reader had was done, where it can tell its bytes, else all that it gave until it told the end, for some
-- marks that may stand.
pub record TakesAll (before after : Given) (old new : World) : Type 0 where
  pub came : List ℕ
  pub marks : List Bool
  pub reads : after.bytes ≡ before.bytes ++ came
  pub ends : IsTrue after.has_ended
  pub all : IfSome before.whole (λ whole. whole ≡ before.bytes ++ came)
  pub leads : LeadsThere old (lines came) marks new

-- The first lines were done, as many as ends of line came.
pub record TakesFirst (before after : Given) (old new : World) : Type 0 where
  pub found : List Text
  pub marks : List Bool
  pub first : AreFirstLines before.bytes after.bytes after.has_ended found
  pub kept : Keeps before.whole after.whole
  pub none_lost : length found ≡ end_count first.came
  pub leads : LeadsThere old found marks new

-- These are the rows that the tenant at this place has.
abbrev pub AreRowsOf : World → ℕ → List Row → Type 0
AreRowsOf world tenant rows = option_map (λ (one : Tenant). one.rows) (slice_get world.tenants tenant) ≡ Some rows

-- These are the rows that the tenant's own requests among the lines leave, which are not marked, after its own calls that
-- led to the old world. Some calls led to each world, as `World::law` says (`IsLedTo`).
abbrev pub AreRowsLeft : (old : World) (found : List Text) (marks : List Bool) (tenant : ℕ) (rows : List Row) → Type 0
AreRowsLeft old found marks tenant rows = (calls : List Call) → IsAfter old calls
    → rows ≡ (tenant_after old.limits (calls ++ calls_by (entries old.names found marks)) tenant).rows

-- All lines were done, and then the export of the rows was written that the tenant's requests among them leave, with the
-- tenant's header. The tenant has these rows.
pub record Exports (before after : Given) (taken taken' : Taken) (old : World) (tenant count : ℕ) (new : World) : Type 0 where
  pub takes : TakesAll before after old new
  pub header : Header
  pub headed : IsHeaderOf old tenant header
  pub rows : List Row
  pub left : AreRowsLeft old (lines takes.came) takes.marks tenant rows
  pub has : AreRowsOf new tenant rows
  pub counted : count ≡ length rows
  pub between : Taken
  pub writes : WritesLines taken between (export_of header rows)
  pub hands_on : HandsAllOn between taken'

-- What was written is an export of so many events on which the verdict is yes.
abbrev pub WritesRight : Taken → Taken → ℕ → Type 0
WritesRight before after count = (export : List ℕ) × (after.bytes ≡ before.bytes ++ export) × IsVerdict export (Yes count)

-- how the fault came while the lines were written
abbrev pub StopsExport : StreamFault → Taken → Taken → List Text → Type 0
StopsExport Write taken taken' these =
    BreaksLines export.Write taken taken' these
    ⊎ ((between : Taken) × WritesLines taken between these × StopsHandingOn between taken')
StopsExport Memory taken taken' these = BreaksLines export.Memory taken taken' these
StopsExport fault taken taken' these = ⊥

-- All lines were done, and the fault came while the export was written: a front of it was, or all of it and the flush failed.
pub record ExportsInPart (fault : StreamFault) (before after : Given) (taken taken' : Taken) (old : World) (tenant : ℕ) (new : World) : Type 0 where
  pub takes : TakesAll before after old new
  pub header : Header
  pub headed : IsHeaderOf old tenant header
  pub rows : List Row
  pub left : AreRowsLeft old (lines takes.came) takes.marks tenant rows
  pub has : AreRowsOf new tenant rows
  pub stops : StopsExport fault taken taken' (export_of header rows)

-- A fault came: while the lines were read, and then nothing was written, and for want of memory nothing was read or done
-- either; or afterwards.
abbrev pub BreaksExport : StreamFault → (before after : Given) (taken taken' : Taken) → World → ℕ → World → Type 0
BreaksExport fault before after taken taken' old tenant new =
    ((taken' ≡ taken) × (fault ≢ Write) × (fault ≡ Memory → (after ≡ before) × (new ≡ old)) × TakesFirst before after old new)
    ⊎ ExportsInPart fault before after taken taken' old tenant new
