-- What the program did.
use Rattle.std.specs.Prelude.{◌≡◌, ◌≢◌, ℕ, ◌+◌, ◌<◌, ◌^◌, Bool, true, false, IsTrue, List, ◌++◌, ◌⊎◌, codes, decimal, length, map, Option, Some, None, is_some, IfSome, IsSomeAnd}
use Rattle.trace_types.specs.text.Name.{Text}
use Rattle.trace_types.specs.tenant.Limits.{Limits}
use Rattle.trace_types.specs.tenant.Tenant.{fresh}
use Rattle.trace_types.specs.declared.row.Row.{Row}
use Rattle.trace_types.specs.world.Replay.{place_of}
use Rattle.trace_types.specs.world.World.{World}
use Rattle.line_protocol.specs.Source.{Given}
use Rattle.line_protocol.specs.Sink.{Taken}
use Rattle.line_protocol.specs.Writing.{EndsInFault}
use Rattle.line_protocol.specs.declared.stream_fault.StreamFault.{StreamFault}
use Rattle.trace_export.specs.Checked.{Judges, StopsReading}
use Rattle.trace_export.specs.Loads.{BreaksLoading, Loads, LoadsAs, StopsLoading}
use Rattle.trace_export.specs.ReadTo.{StopsAtLine}
use Rattle.trace_export.specs.Reasons.{reason_number}
use Rattle.trace_export.specs.declared.loaded.Loaded.{Loaded}
use Rattle.trace_export.specs.declared.loaded.Loaded.TheVariants as loaded
use Rattle.trace_export.specs.declared.reason.Reason.{Reason}
use Rattle.trace_export.specs.declared.verdict.Verdict.{Verdict}
use Rattle.trace_export.specs.declared.verdict.Verdict.TheVariants.{Yes, No}
use Rattle.trace_world.specs.Exported.{BreaksExport, Exports}
use Rattle.trace_world.specs.Replayed.{Replays, ReplaysInPart}
use Rattle.trace_world.specs.declared.counts.Counts.{Counts}
use Rattle.command_line.specs.Demand.{Demand, ToReplay, ToServe, ToCheck, ToLoad}
use Rattle.collector.specs.Fault.{fault_of_stream, line_of_fault}
use Rattle.command_line.specs.Reading.{Work, Loading}
use Rattle.collector.specs.Serving.{Serves, ServesInPart}
use Rattle.collector.specs.Showing.{Shows, ShowsAll, ShowsFront}
use Rattle.collector.specs.declared.fault.Fault.{Fault}
use Rattle.collector.specs.declared.fault.Fault.TheVariants.{Tenants, Port, Accept, Read, Write, TooLong, Memory}

-- tenants of these names that have these limits and have reported nothing
abbrev pub fresh_world : Limits → List Text → World
fresh_world limits names = record { names = names; limits = limits; tenants = map (λ name. fresh limits) names }

-- All that the reader gave was replayed, from tenants of these names and limits that had reported nothing.
pub record ReplaysFresh (limits : Limits) (names : List Text) (before after : Given) (taken taken' : Taken) : Type 0 where
  pub counts : Counts
  pub later : World
  pub replays : Replays before after taken taken' (fresh_world limits names) counts later

-- A replay for such tenants was broken off by this fault.
pub record ReplaysFreshInPart (fault : Fault) (limits : Limits) (names : List Text) (before after : Given) (taken taken' : Taken) : Type 0 where
  pub cause : StreamFault
  pub told : fault_of_stream cause ≡ fault
  pub later : World
  pub replays : ReplaysInPart cause before after taken taken' (fresh_world limits names) later

-- This is the place of the tenant to be exported, if any.
abbrev pub IsExportPlace : Option Text → List Text → Option ℕ → Type 0
IsExportPlace None names place = place ≡ None
IsExportPlace (Some name) names place = (place ≡ place_of names name) × IsTrue (is_some place)

-- All that the reader gave was done, from such tenants, and then the export of the one of this name was written.
pub record ExportsFresh (name : Text) (limits : Limits) (names : List Text) (before after : Given) (taken taken' : Taken) : Type 0 where
  pub place : ℕ
  pub there : place_of names name ≡ Some place
  pub count : ℕ
  pub later : World
  pub exports : Exports before after taken taken' (fresh_world limits names) place count later

-- Such an export was broken off by this fault.
pub record ExportsFreshInPart (fault : Fault) (name : Text) (limits : Limits) (names : List Text) (before after : Given) (taken taken' : Taken) : Type 0 where
  pub place : ℕ
  pub there : place_of names name ≡ Some place
  pub cause : StreamFault
  pub told : fault_of_stream cause ≡ fault
  pub later : World
  pub breaks : BreaksExport cause before after taken taken' (fresh_world limits names) place later

-- Nothing was read, and nothing written on the output.
abbrev pub IsUntouched : {R W : Type 0} → R → R → W → W → Type 0
IsUntouched reader reader' writer writer' = (reader' ≡ reader) × (writer' ≡ writer)

-- No read and no write failed.
abbrev pub NothingFails : (before after : Given) (taken taken' : Taken) → Type 0
NothingFails before after taken taken' = (before.failures < after.failures → ⊥) × (taken.failures < taken'.failures → ⊥)

-- No read or write failed, and what was written was handed on.
abbrev pub GoesThrough : (before after : Given) (taken taken' : Taken) → Type 0
GoesThrough before after taken taken' = NothingFails before after taken taken' × IsTrue taken'.is_flushed

-- Why a run fails: by what is seen of the reader and the writer before and after it. Of ports and connections nothing is seen.
abbrev pub IsFailure : (before after : Given) (taken taken' : Taken) → Fault → Type 0
IsFailure before after taken taken' Read = before.failures < after.failures
IsFailure before after taken taken' TooLong = after.reads ≡ before.reads + 2 ^ 30
IsFailure before after taken taken' Write = EndsInFault taken taken'
IsFailure before after taken taken' Port = Unit {0}
IsFailure before after taken taken' Accept = Unit {0}
IsFailure before after taken taken' fault = ⊥

-- The line of a fault was shown.
abbrev pub TellsFault : Taken → Taken → Fault → Type 0
TellsFault before after fault = Shows before after (line_of_fault fault)

-- Some text was shown, the whole of it.
abbrev pub ShowsSomeAll : Taken → Taken → Type 0
ShowsSomeAll before after = (text : Text) × (0 < length text) × ShowsAll before after text

-- Some text was shown, or a prefix of it if a call failed.
abbrev pub ShowsSome : Taken → Taken → Type 0
ShowsSome before after = (text : Text) × (0 < length text) × Shows before after text

-- By whether the tenants are taken: those that are taken are not refused. Others are, and the line says so.
abbrev pub RefusesTenants : Bool → Taken → Taken → ℕ → Type 0
RefusesTenants true before after status = status ≢ 2
RefusesTenants false before after status = (status ≡ 2) × TellsFault before after Tenants

-- What a fault tells of whether the tenants are taken.
abbrev pub TellsOfTenants : Fault → Bool → Type 0
TellsOfTenants Tenants taken = taken ≡ false
TellsOfTenants fault taken = taken ≡ true

-- the line that tells a verdict
abbrev pub line_of_verdict : Verdict → Text
line_of_verdict (Yes events) = codes "yes " ++ decimal events ++ codes "\n"
line_of_verdict (No line reason) = codes "no " ++ decimal line ++ codes " " ++ decimal (reason_number reason) ++ codes "\n"

-- the status that tells it
abbrev pub status_of_verdict : Verdict → ℕ
status_of_verdict (Yes events) = 0
status_of_verdict (No line reason) = 1

-- A verdict on what the reader gave was told, by its line and by the status. Nothing behind a faulty line was asked for.
pub record TellsVerdict {R : Type 0} (given : R → Given) (reader reader' : R) (taken taken' : Taken) (status : ℕ) : Type 0 where
  pub verdict : Verdict
  pub judges : Judges (given reader) (given reader') verdict
  pub stops : StopsReading given reader reader' verdict
  pub line : ShowsAll taken taken' (line_of_verdict verdict)
  pub status_is : status ≡ status_of_verdict verdict

-- A prefix of the line of such a verdict was written.
pub record TellsFrontOfVerdict {R : Type 0} (given : R → Given) (reader reader' : R) (taken taken' : Taken) : Type 0 where
  pub verdict : Verdict
  pub judges : Judges (given reader) (given reader') verdict
  pub stops : StopsReading given reader reader' verdict
  pub line : ShowsFront taken.bytes taken'.bytes (line_of_verdict verdict)

-- A check was broken off by this fault: nothing was written, unless the fault is one of writing.
abbrev pub ChecksInPart : {R : Type 0} (given : R → Given) (fault : Fault) (reader reader' : R) (taken taken' : Taken) → Type 0
ChecksInPart given Read reader reader' taken taken' = taken' ≡ taken
ChecksInPart given Write reader reader' taken taken' = TellsFrontOfVerdict given reader reader' taken taken'
ChecksInPart given TooLong reader reader' taken taken' = taken' ≡ taken
ChecksInPart given Memory reader reader' taken taken' = taken' ≡ taken
ChecksInPart given fault reader reader' taken taken' = ⊥

-- The replay was done, or, if the name of a tenant is given, its export.
abbrev pub DoesReplay : (export : Option Text) (limits : Limits) (names : List Text) (before after : Given) (taken taken' : Taken) → Type 0
DoesReplay None limits names before after taken taken' = ReplaysFresh limits names before after taken taken'
DoesReplay (Some name) limits names before after taken taken' = ExportsFresh name limits names before after taken taken'

-- the line that tells that this line is faulty, for this reason
abbrev pub line_of_no : ℕ → Reason → Text
line_of_no line reason = codes "itc_trace: no " ++ decimal line ++ codes " " ++ decimal (reason_number reason) ++ codes "\n"

-- the status that tells what loading answers
abbrev pub status_of_loaded : Loaded → ℕ
status_of_loaded (loaded.Done count) = 0
status_of_loaded (loaded.No line reason) = 1

-- What the reader gave was loaded for this tenant, what was written was handed on, and this status tells it.
pub record LoadsExport (tenant : Text) (before after : Given) (taken taken' : Taken) (status : ℕ) : Type 0 where
  pub loaded : Loaded
  pub between : Taken
  pub loads : Loads before after taken between tenant loaded
  pub handed_on : taken'.bytes ≡ between.bytes
  pub status_is : status ≡ status_of_loaded loaded

-- the line that tells it, if it is not loaded
abbrev pub line_of_loaded : Loaded → Option Text
line_of_loaded (loaded.Done count) = None
line_of_loaded (loaded.No line reason) = Some (line_of_no line reason)

-- What the reader gave was loaded for this tenant, and what was written was handed on. If nothing was, this line is to tell
-- why. Nothing behind a faulty line was asked for.
pub record LoadsToTell {R : Type 0} (given : R → Given) (line : Option Text) (tenant : Text) (reader reader' : R) (taken taken' : Taken) : Type 0 where
  pub loaded : Loaded
  pub between : Taken
  pub loads : Loads (given reader) (given reader') taken between tenant loaded
  pub stops : StopsLoading given reader reader' loaded
  pub handed_on : taken'.bytes ≡ between.bytes
  pub line_is : line ≡ line_of_loaded loaded

-- Why what the reader gave is not loaded was told by a line on standard error. Nothing behind the faulty line was asked for.
pub record TellsNo {R : Type 0} (given : R → Given) (reader reader' : R) (told told' : Taken) : Type 0 where
  pub number : ℕ
  pub reason : Reason
  pub rows : List Row
  pub loads : LoadsAs (given reader) (given reader') (loaded.No number reason) rows
  pub stops : StopsAtLine given number reader reader'
  pub line : Shows told told' (line_of_no number reason)

-- A line of what the reader gave is faulty, nothing behind it was asked for, and nothing was written.
abbrev pub FindsFaultyLine : {R : Type 0} (given : R → Given) (reader reader' : R) (taken taken' : Taken) → Type 0
FindsFaultyLine given reader reader' taken taken' = (number : ℕ) × (reason : Reason) × (rows : List Row)
    × LoadsAs (given reader) (given reader') (loaded.No number reason) rows × StopsAtLine given number reader reader'
    × (taken'.bytes ≡ taken.bytes)

-- All was loaded, or the faulty line found, and what was written could not be handed on.
abbrev pub LoadsUnflushed : {R : Type 0} (given : R → Given) (tenant : Text) (reader reader' : R) (taken taken' : Taken) → Type 0
LoadsUnflushed given tenant reader reader' taken taken' = (loaded : Loaded) × (between : Taken)
    × Loads (given reader) (given reader') taken between tenant loaded × StopsLoading given reader reader' loaded
    × (taken'.bytes ≡ between.bytes)

-- Loading for this tenant was broken off by this fault; or its end could not be told: what was written could not be handed
-- on, or there was no memory for the line that tells which line is faulty.
abbrev pub LoadsExportInPart : {R : Type 0} (given : R → Given) (fault : Fault) (tenant : Text) (reader reader' : R) (taken taken' : Taken) → Type 0
LoadsExportInPart given fault tenant reader reader' taken taken' =
    ((cause : StreamFault) × (fault_of_stream cause ≡ fault) × BreaksLoading cause (given reader) (given reader') taken taken' tenant)
    ⊎ ((fault ≡ Write) × LoadsUnflushed given tenant reader reader' taken taken')
    ⊎ ((fault ≡ Memory) × FindsFaultyLine given reader reader' taken taken')

-- It was broken off by this fault.
abbrev pub DoesReplayInPart : (export : Option Text) (fault : Fault) (limits : Limits) (names : List Text) (before after : Given) (taken taken' : Taken) → Type 0
DoesReplayInPart None fault limits names before after taken taken' = ReplaysFreshInPart fault limits names before after taken taken'
DoesReplayInPart (Some name) fault limits names before after taken taken' = ExportsFreshInPart fault name limits names before after taken taken'

-- What is asked for was done, and this status tells it.
abbrev pub Does : {R : Type 0} (given : R → Given) (asked : Demand) (reader reader' : R) (taken taken' : Taken) (status : ℕ) → Type 0
Does given (ToReplay asked) reader reader' taken taken' status =
    (status ≡ 0) × DoesReplay asked.export asked.limits asked.tenants (given reader) (given reader') taken taken'
Does given (ToServe asked) reader reader' taken taken' status =
    (status ≡ 0) × (reader' ≡ reader) × Serves asked.port asked.sessions taken taken'
Does given ToCheck reader reader' taken taken' status = TellsVerdict given reader reader' taken taken' status
Does given (ToLoad tenant) reader reader' taken taken' status = LoadsExport tenant (given reader) (given reader') taken taken' status

-- What is asked for was broken off by this fault.
abbrev pub DoesInPart : {R : Type 0} (given : R → Given) (asked : Demand) (fault : Fault) (reader reader' : R) (taken taken' : Taken) → Type 0
DoesInPart given (ToReplay asked) fault reader reader' taken taken' =
    DoesReplayInPart asked.export fault asked.limits asked.tenants (given reader) (given reader') taken taken'
DoesInPart given (ToServe asked) fault reader reader' taken taken' = (reader' ≡ reader) × ServesInPart fault asked.port taken taken'
DoesInPart given ToCheck fault reader reader' taken taken' = ChecksInPart given fault reader reader' taken taken'
DoesInPart given (ToLoad tenant) fault reader reader' taken taken' = LoadsExportInPart given fault tenant reader reader' taken taken'

-- What running out of memory leaves of what was asked for. Only an export, a service, a check and a load can have begun then.
abbrev pub LacksMemory : {R W : Type 0} (given : R → Given) (taken : W → Taken) (asked : Demand) → R → R → W → W → Type 0
LacksMemory given taken (ToReplay asked) reader reader' writer writer' = IsSomeAnd asked.export (λ name.
    ExportsFreshInPart Memory name asked.limits asked.tenants (given reader) (given reader') (taken writer) (taken writer'))
LacksMemory given taken (ToServe asked) reader reader' writer writer' = (reader' ≡ reader)
    × ServesInPart Memory asked.port (taken writer) (taken writer')
LacksMemory given taken ToCheck reader reader' writer writer' = writer' ≡ writer
LacksMemory given taken (ToLoad tenant) reader reader' writer writer' =
    LoadsExportInPart given Memory tenant reader reader' (taken writer) (taken writer')

-- nothing was told on standard error, but why an export is not loaded
abbrev pub IsQuiet : {E : Type 0} → Work → ℕ → E → E → Type 0
IsQuiet work status errors errors' = ((status ≡ 1) × (work ≡ Loading) → ⊥) → errors' ≡ errors

-- What a run that fails leaves: the fault's cause, and in part what is asked for.
abbrev pub BreaksOff : {R : Type 0} (given : R → Given) (reader reader' : R) (taken taken' : Taken) → Option Demand → Fault → Type 0
BreaksOff given reader reader' taken taken' asked fault = IsFailure (given reader) (given reader') taken taken' fault
    × IfSome asked (λ wanted. DoesInPart given wanted fault reader reader' taken taken')
