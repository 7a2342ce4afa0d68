-- What a load leaves, of the lines that were loaded and the requests that were written.
use Rattle.std.proofs.Common.{◌≡◌, ◌≢◌, ℕ, List, [], inl, inr, Result, Err, IsErrAnd, refl, subst}
use Rattle.std.specs.List.{All}
use Rattle.std.proofs.lemmas.List.{append-nil}
use Rattle.trace_types.specs.text.Name.{Text}
use Rattle.trace_types.specs.declared.row.Row.{Row}
use Rattle.line_protocol.specs.Sink.{Taken}
use Rattle.line_protocol.specs.Source.{Given}
use Rattle.line_protocol.specs.declared.stream_fault.StreamFault.{StreamFault}
use Rattle.line_protocol.specs.declared.stream_fault.StreamFault.TheVariants.{Write, Memory}
use Rattle.trace_export.specs.Export.{BreaksLines, WritesLines, stream_fault_of_export}
use Rattle.trace_export.specs.Loading.{IsLoaded, limits_under, request_lines}
use Rattle.trace_export.specs.Loads.{BreaksLoading, IsExportOfRun, Loads, LoadsAs}
use Rattle.trace_export.specs.declared.export_fault.ExportFault.{ExportFault}
use Rattle.trace_export.specs.declared.export_fault.ExportFault.TheVariants as export
use Rattle.trace_export.specs.declared.loaded.Loaded.TheVariants.{Done, No}
use Rattle.trace_export.specs.declared.reason.Reason.{Reason}
use Rattle.trace_export.proofs.LoadedEvents.{loaded_is_export}
use Rattle.trace_export.proofs.Rerunning.{HasItsName, loaded_are_named}

-- what came is loaded, with nothing behind it
loaded_alone : {before after : Given} {count : ℕ} {rows : List Row} → (loads : LoadsAs before after (Done count) rows) → IsLoaded loads.came (Done count) rows
loaded_alone {count = count} {rows} loads =
    subst (λ bytes. IsLoaded bytes (Done count) rows) (append-nil loads.came) (loads.is_due [] (λ ended. refl))

-- so it is the export of the rows
pub is_export : {before after : Given} {count : ℕ} {rows : List Row} → (loads : LoadsAs before after (Done count) rows) → IsExportOfRun loads.came count rows
is_export {count = count} {rows} loads = loaded_is_export loads.came count rows (loaded_alone loads)

-- the rows have names where they should
pub rows_named : (before after : Given) (count : ℕ) (rows : List Row) → LoadsAs before after (Done count) rows → All HasItsName rows
rows_named before after count rows loads =
    let loaded = loaded_alone loads in
    loaded_are_named (limits_under loaded.header) loaded.events rows loaded.judged.1

-- all requests were written
pub loads_done_whole : (before after : Given) (taken taken' : Taken) (tenant : Text) (count : ℕ) (rows : List Row) → LoadsAs before after (Done count) rows → WritesLines taken taken' (request_lines tenant rows)
    → Loads before after taken taken' tenant (Done count)
loads_done_whole before after taken taken' tenant count rows loads writes = record { rows = rows; loads = loads; is_export = is_export loads; writes = writes }

-- a line was faulty
pub loads_not : (before after : Given) (taken : Taken) (tenant : Text) (number : ℕ) (reason : Reason) (rows : List Row) → LoadsAs before after (No number reason) rows → Loads before after taken taken tenant (No number reason)
loads_not before after taken tenant number reason rows loads = record { rows = rows; loads = loads; is_export = tt; writes = refl }

-- nothing was written
pub breaks_before : (fault : StreamFault) (before after : Given) (taken : Taken) (tenant : Text) → fault ≢ Write → BreaksLoading fault before after taken taken tenant
breaks_before fault before after taken tenant no_write = inl (refl, no_write)

-- the requests were written in part
pub breaks_amid : (cause : ExportFault) (before after : Given) (taken taken' : Taken) (tenant : Text) (count : ℕ) (rows : List Row) → LoadsAs before after (Done count) rows → BreaksLines cause taken taken' (request_lines tenant rows)
    → BreaksLoading (stream_fault_of_export cause) before after taken taken' tenant
breaks_amid cause before after taken taken' tenant count rows loads breaks =
    inr (record { cause = cause; told = refl; count = count; rows = rows; loads = loads; is_export = is_export loads; breaks = breaks })

-- a write fault that is told is one
pub write_fault_is : {T : Type 0} (result : Result T StreamFault) (cause : ExportFault) → IsErrAnd result (λ fault. fault ≡ stream_fault_of_export cause) → result ≡ Err Write → cause ≡ export.Write
write_fault_is result export.Write is told = refl
write_fault_is {T} result export.Memory is told =
    let no : Write ≡ Memory = subst (λ (found : Result T StreamFault). IsErrAnd found (λ fault. fault ≡ Memory)) told is in
    absurd (cc)
