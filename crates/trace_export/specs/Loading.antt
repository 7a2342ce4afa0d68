-- What comes of an export that is loaded: the requests of its lines, run from nothing.
use Rattle.std.specs.Prelude.{◌≡◌, ℕ, suc, ◌+◌, List, [], ◌∷◌, ◌++◌, length, map, Option, Some, None, codes}
use Rattle.trace_types.specs.clock.Stamps.{stamp_text_of}
use Rattle.trace_types.specs.tenant.Limits.{Limits}
use Rattle.trace_types.specs.tenant.Refusal.{refusal_of}
use Rattle.trace_types.specs.tenant.Rows.{history_of}
use Rattle.trace_types.specs.tenant.Tenant.{Tenant, step}
use Rattle.trace_types.specs.text.Lines.{lines}
use Rattle.trace_types.specs.text.Name.{Text}
use Rattle.trace_types.specs.text.Text.{request_text}
use Rattle.trace_types.specs.declared.code.Code.{Code}
use Rattle.trace_types.specs.declared.reply.Reply.TheVariants as reply
use Rattle.trace_types.specs.declared.request.Request.{Request}
use Rattle.trace_types.specs.declared.request.Request.TheVariants as request
use Rattle.trace_types.specs.declared.row.Kind.{Kind}
use Rattle.trace_types.specs.declared.row.Kind.TheVariants as kind
use Rattle.trace_types.specs.declared.row.Row.{Row}
use Rattle.trace_export.specs.Heading.{AreParts, lines_ahead}
use Rattle.trace_export.specs.Listing.{Listed, ListsAs}
use Rattle.trace_export.specs.Verdict.{IsJsonLine, IsListing, IsPlacedAs, IsUnfitFor}
use Rattle.trace_export.specs.declared.header.Header.{Header}
use Rattle.trace_export.specs.declared.loaded.Loaded.{Loaded}
use Rattle.trace_export.specs.declared.loaded.Loaded.TheVariants.{Done, No}
use Rattle.trace_export.specs.declared.placed.Placed.{Placed}
use Rattle.trace_export.specs.declared.reason.Reason.{Reason}
use Rattle.trace_export.specs.declared.reason.Reason.TheVariants.{NoJson, NoEvent, Refused, NotDue}

-- the request for a report of this kind, by this task, with this name; all but two kinds have one
abbrev pub request_for : Kind → Text → Option Text → Request
request_for kind.Local task name = request.Local task
request_for kind.End task name = request.End task
request_for kind.Spawn task (Some child) = request.Spawn task child
request_for kind.Send task (Some message) = request.Send task message
request_for kind.Recv task (Some message) = request.Recv task message
request_for kind.Join task (Some child) = request.Join task child
request_for other task None = request.Local task

-- that of a listed event, and that of a row
abbrev pub listed_request : Listed → Request
listed_request listed = request_for listed.kind listed.task listed.name

abbrev pub row_request : Row → Request
row_request row = request_for row.kind row.task row.name

-- the limits under which an export is loaded: those of its header, or without one the greatest
abbrev pub limits_under : Option Header → Limits
limits_under None = record { events = 16384; tasks = 2048; messages = 16384 }
limits_under (Some header) = header.limits

-- a tenant with these limits and rows
abbrev pub tenant_with : Limits → List Row → Tenant
tenant_with limits rows = record { limits = limits; rows = rows }

-- the listed event may be the one after these rows, by what its line says alone
abbrev pub MayFollow : List Row → Listed → Type 0
MayFollow rows listed = (placed : Placed) × IsPlacedAs (suc (length rows)) listed placed

-- after these rows its request is accepted, and makes this row
abbrev pub MakesRow : Limits → List Row → Listed → Row → Type 0
MakesRow limits rows listed row =
    step (tenant_with limits rows) (listed_request listed) ≡ (reply.Accepted (suc (length rows)), tenant_with limits (rows ++ row ∷ []))

-- the event of this number has the predecessors and the stamp that are listed; this is its row
abbrev pub IsAsListed : List Row → ℕ → Row → Listed → Type 0
IsAsListed rows event row listed = (row.preds ≡ listed.preds) × (stamp_text_of (history_of rows) event ≡ listed.stamp)

-- so has the one that follows these rows
abbrev pub IsListedAsDue : List Row → Row → Listed → Type 0
IsListedAsDue rows row listed = IsAsListed (rows ++ row ∷ []) (suc (length rows)) row listed

-- The listed event is the one that its request makes after these rows, with this row.
pub record IsDueNext (limits : Limits) (rows : List Row) (listed : Listed) (row : Row) : Type 0 where
  pub may : MayFollow rows listed
  pub makes : MakesRow limits rows listed row
  pub due : IsListedAsDue rows row listed

-- So is the event that the line lists.
pub record IsLoadedNext (limits : Limits) (rows : List Row) (line : Text) (row : Row) : Type 0 where
  pub listed : Listed
  pub listing : IsListing line listed
  pub due : IsDueNext limits rows listed row

-- after these rows each line is so, and then the rows are these
abbrev pub AreLoadedAfter : Limits → List Row → List Text → List Row → Type 0
AreLoadedAfter limits earlier [] rows = rows ≡ earlier
AreLoadedAfter limits earlier (line ∷ rest) rows =
    (row : Row) × IsLoadedNext limits earlier line row × AreLoadedAfter limits (earlier ++ row ∷ []) rest rows

-- the request of the listed event is refused after these rows
abbrev pub IsRefusedAfter : Limits → List Row → Listed → Type 0
IsRefusedAfter limits rows listed = (code : Code) × (refusal_of limits (history_of rows) (listed_request listed) ≡ Some code)

-- it is accepted, and yet the predecessors or the stamp are not those listed
abbrev pub IsListedOtherwise : Limits → List Row → Listed → Type 0
IsListedOtherwise limits rows listed = (row : Row) × MakesRow limits rows listed row × (¬ IsListedAsDue rows row listed)

-- why the listed event is not the one after these rows
abbrev pub IsUnfitAfter : Reason → Limits → List Row → Listed → Type 0
IsUnfitAfter Refused limits rows listed = MayFollow rows listed × IsRefusedAfter limits rows listed
IsUnfitAfter NotDue limits rows listed = MayFollow rows listed × IsListedOtherwise limits rows listed
IsUnfitAfter reason limits rows listed = IsUnfitFor reason (suc (length rows)) listed

-- the line after these rows is faulty for this reason, and for none that comes before it
abbrev pub IsFaultyAfter : Reason → Limits → List Row → Text → Type 0
IsFaultyAfter NoJson limits rows line = ¬ IsJsonLine line
IsFaultyAfter NoEvent limits rows line = IsJsonLine line × ((listed : Listed) → ¬ ListsAs line listed)
IsFaultyAfter reason limits rows line = (listed : Listed) × IsListing line listed × IsUnfitAfter reason limits rows listed

-- the first faulty of these lines of events, which come after so many, and the first reason there
pub record FailsToLoad (ahead : ℕ) (limits : Limits) (all : List Text) (number : ℕ) (reason : Reason) : Type 0 where
  pub before : List Text
  pub line : Text
  pub rest : List Text
  pub splits : all ≡ before ++ line ∷ rest
  pub counts : number ≡ ahead + suc (length before)
  pub rows : List Row
  pub loaded : AreLoadedAfter limits [] before rows
  pub faulty : IsFaultyAfter reason limits rows line

-- what is answered to lines of events, which come after so many; they leave these rows if none is faulty
abbrev pub IsLoadedFrom : ℕ → Limits → List Text → Loaded → List Row → Type 0
IsLoadedFrom ahead limits events (Done count) rows = (count ≡ length events) × AreLoadedAfter limits [] events rows
IsLoadedFrom ahead limits events (No number reason) rows = FailsToLoad ahead limits events number reason

-- What is answered to the bytes; they leave these rows if no line of an event is faulty. A first line that is no header
-- counts as a line of an event.
pub record IsLoaded (bytes : List ℕ) (loaded : Loaded) (rows : List Row) : Type 0 where
  pub header : Option Header
  pub events : List Text
  pub parts : AreParts (lines bytes) header events
  pub judged : IsLoadedFrom (lines_ahead header) (limits_under header) events loaded rows

-- the line of the request that made a row, to this tenant, with its end
abbrev pub request_line : Text → Row → Text
request_line tenant row = tenant ++ codes " " ++ request_text (row_request row) ++ codes "\n"

-- the lines of the requests that made these rows
abbrev pub request_lines : Text → List Row → List Text
request_lines tenant rows = map (request_line tenant) rows
