-- What one line does to the tenant that the lines before it lead to.
use Rattle.std.specs.Prelude.{◌≡◌, suc, ◌+◌, ◌⊎◌, [], ◌∷◌, ◌++◌, length, Option, Some, None}
use Rattle.trace_types.specs.tenant.Tenant.{fresh}
use Rattle.trace_types.specs.text.Name.{Text}
use Rattle.trace_types.specs.declared.row.Row.{Row}
use Rattle.line_protocol.specs.declared.line.Line.{Line}
use Rattle.trace_export.specs.Checked.{HoldsOfFound}
use Rattle.trace_export.specs.Heading.{IsHeader, IsNoHeader, lines_ahead}
use Rattle.trace_export.specs.Listing.{Listed}
use Rattle.trace_export.specs.Loading.{IsDueNext, IsFaultyAfter, IsLoadedNext, limits_under, tenant_with}
use Rattle.trace_export.specs.declared.header.Header.{Header}
use Rattle.trace_export.specs.declared.loaded.Loaded.{Loaded}
use Rattle.trace_export.specs.declared.loaded.Loaded.TheVariants.{Done, No}
use Rattle.trace_export.specs.declared.reason.Reason.{Reason}
use Rattle.trace_export.specs.declared.follower.Follower.{Follower}

-- there was no line yet
abbrev pub IsUnbegun : Follower → Type 0
IsUnbegun follower = (follower.header ≡ None) × (follower.ledger ≡ fresh (limits_under None))

-- the line may be the first, and is then no header
abbrev pub IsNoFirstLine : Follower → Text → Type 0
IsNoFirstLine old text = old.header ≡ None → old.ledger.rows ≡ [] → IsNoHeader text

-- The ledger has one row more, and the header is the same.
pub record HasRowMore (old new : Follower) (row : Row) : Type 0 where
  pub ledger : new.ledger ≡ tenant_with old.ledger.limits (old.ledger.rows ++ row ∷ [])
  pub header : new.header ≡ old.header

-- The request of the listed event was made, and it is the one that is due.
pub record IsMade (old new : Follower) (listed : Listed) : Type 0 where
  pub row : Row
  pub due : IsDueNext old.ledger.limits old.ledger.rows listed row
  pub more : HasRowMore old new row

-- So was that of the event that the line with this text lists.
pub record IsLineMade (old new : Follower) (text : Text) : Type 0 where
  pub row : Row
  pub loaded : IsLoadedNext old.ledger.limits old.ledger.rows text row
  pub more : HasRowMore old new row

-- The first line, which has this text, is this header, and the tenant is a fresh one with its limits.
pub record IsBegun (old new : Follower) (text : Text) : Type 0 where
  pub header : Header
  pub first : (old.header ≡ None) × (old.ledger.rows ≡ [])
  pub is : IsHeader text header
  pub headed : new.header ≡ Some header
  pub ledger : new.ledger ≡ fresh header.limits

-- The line is no header if it is the first one, and its request was made.
pub record IsEventMade (old new : Follower) (text : Text) : Type 0 where
  pub no_header : IsNoFirstLine old text
  pub made : IsLineMade old new text

-- The line is no header if it is the first one, and is faulty for this reason.
pub record IsRejected (reason : Reason) (old : Follower) (text : Text) : Type 0 where
  pub no_header : IsNoFirstLine old text
  pub faulty : IsFaultyAfter reason old.ledger.limits old.ledger.rows text

-- The line is a header or that of an event, and is loaded; or it is faulty, and the answer says so.
abbrev pub IsTakenAs : Option Loaded → Follower → Follower → Text → Type 0
IsTakenAs None old new text = IsBegun old new text ⊎ IsEventMade old new text
IsTakenAs (Some (Done count)) old new text = ⊥
IsTakenAs (Some (No number reason)) old new text =
    (number ≡ lines_ahead old.header + suc (length old.ledger.rows)) × IsRejected reason old text

-- What is answered if this was found. At the end it is that all is done.
abbrev pub IsTaken : Line → Text → Option Loaded → Follower → Follower → Type 0
IsTaken found line loaded old new =
    HoldsOfFound found line ((loaded ≡ Some (Done (length old.ledger.rows))) × (new.ledger ≡ old.ledger)) (IsTakenAs loaded old new)
