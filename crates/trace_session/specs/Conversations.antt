-- What a session on a hub did.
use Rattle.std.specs.Prelude.{◌≡◌, Result, Ok, Err, [], ◌∷◌, ◌⊎◌, Option, Some, None, MatchOption}
use Rattle.trace_types.specs.tenant.Tenant.{Tenant}
use Rattle.trace_types.specs.text.Name.{Text}
use Rattle.trace_types.specs.declared.code.Code.{Code}
use Rattle.trace_types.specs.declared.code.Code.TheVariants.{Line, NoTenant, DeskTaken, NoPlace}
use Rattle.trace_types.specs.declared.request.Request.{Request}
use Rattle.trace_types.specs.declared.reply.Reply.{Reply}
use Rattle.trace_types.specs.declared.reply.Reply.TheVariants as reply
use Rattle.line_protocol.specs.LineReading.{AllWereMade, Finds, FindsNone, GivesLine}
use Rattle.line_protocol.specs.Sink.{Taken}
use Rattle.line_protocol.specs.declared.line.Line.TheVariants as line
use Rattle.line_protocol.specs.declared.line_reader.ReadFault.TheVariants as read
use Rattle.tenant_desk.specs.Histories.{Log}
use Rattle.trace_session.specs.Belonging.{Belongs}
use Rattle.trace_session.specs.Hubs.{Hub, Owner, tenant_named}
use Rattle.trace_session.specs.Lent.{AsksView, IsSoundDesk, IsSoundView, TakesRequest, tenant_seen}
use Rattle.trace_session.specs.Openings.{opening_in}
use Rattle.trace_session.specs.Sessions.{Session}
use Rattle.trace_session.specs.State.{State}
use Rattle.trace_session.specs.Witnesses.{IsWitnessed, Witness}
use Rattle.trace_session.specs.Written.{WritesAll, WritesLinesInPart}
use Rattle.trace_session.specs.declared.hub_session.Lending.{Lending}
use Rattle.trace_session.specs.declared.hub_session.Lending.TheVariants as lending
use Rattle.trace_session.specs.declared.hub_session.Opening.{Opening}
use Rattle.trace_session.specs.declared.session_end.SessionEnd.{SessionEnd}
use Rattle.trace_session.specs.declared.session_end.SessionEnd.TheVariants.{EndOfInput, Refused}
use Rattle.trace_session.specs.declared.session_end.SessionFault.{SessionFault}
use Rattle.trace_session.specs.declared.session_end.SessionFault.TheVariants.{Read, Write, TooLong, Gate}

-- No first line was found: the input had ended, or a fault came before.
abbrev pub FindsNoLine : Result SessionEnd SessionFault → State → State → Type 0
FindsNoLine (Ok EndOfInput) before after = Finds before.given.bytes after.given.bytes before.held after.held line.End
FindsNoLine (Err Read) before after = FindsNone before.given.bytes after.given.bytes before.held
FindsNoLine (Err TooLong) before after = FindsNone before.given.bytes after.given.bytes before.held × AllWereMade read.TooLong after.held
FindsNoLine other before after = ⊥

-- The one line that a refused session writes was written, or not.
abbrev pub TurnsAway : Code → Taken → Taken → Result SessionEnd SessionFault → Type 0
TurnsAway code before after (Ok end) = (end ≡ Refused code) × WritesAll before after (reply.Refused code ∷ [])
TurnsAway code before after (Err Write) = WritesLinesInPart before after (reply.Refused code ∷ [])
TurnsAway code before after (Err Gate) = WritesAll before after []
TurnsAway code before after (Err fault) = ⊥

-- The session was refused with this code, and read nothing more. There is no witness.
pub record IsTurnedAway (code : Code) (witness : Option Witness) (before after : State) (result : Result SessionEnd SessionFault) : Type 0 where
  pub refuses : TurnsAway code before.taken after.taken result
  pub same_given : after.given ≡ before.given
  pub same_held : after.held ≡ before.held
  pub unwitnessed : witness ≡ None

-- What was lent belongs to this tenant, and what the session left of it does. The session was held with it. The witness is
-- of the rows of both, which the tenant's log has reached.
pub record IsHeld {S : Type 0} (IsSound : S → Type 0) (tenant_of : S → Tenant) (log_of : S → Log) (Does : S → Request → Reply → S → Type 0) (owner : Owner) (witness : Option Witness) (before after : State) (result : Result SessionEnd SessionFault) : Type 0 where
  pub lent : S
  pub left : S
  pub lent_belongs : Belongs IsSound tenant_of log_of owner lent
  pub left_belongs : Belongs IsSound tenant_of log_of owner left
  pub witnessed : IsWitnessed tenant_of log_of lent left witness
  pub session : Session Does lent left before after result

-- It was not there to be lent, and the session was refused with this code; or the session was held with it.
abbrev pub Lends : {S : Type 0} → (S → Type 0) → (S → Tenant) → (S → Log) → (S → Request → Reply → S → Type 0) → Code → Owner → Option Witness → State → State → Result SessionEnd SessionFault → Type 0
Lends IsSound tenant_of log_of Does code owner witness before after result = IsTurnedAway code witness before after result ⊎ IsHeld IsSound tenant_of log_of Does owner witness before after result

-- The session asked for the desk of this tenant, or for a view.
abbrev pub LendsTo : Lending → Owner → Option Witness → State → State → Result SessionEnd SessionFault → Type 0
LendsTo lending.Desk owner witness before after result = Lends IsSoundDesk (λ desk. desk.tenant) (λ desk. desk.log) TakesRequest DeskTaken owner witness before after result
LendsTo lending.View owner witness before after result = Lends IsSoundView tenant_seen (λ view. view.log) AsksView NoPlace owner witness before after result

-- What came of the first line on this hub: one that opens nothing is refused, one that names no tenant is, and else what it
-- asks for is lent of the tenant that it names, if it is there.
abbrev pub Opens : Hub → Option Opening → Option Witness → State → State → Result SessionEnd SessionFault → Type 0
Opens hub None witness before after result = IsTurnedAway Line witness before after result
Opens hub (Some opening) witness before after result =
    MatchOption (tenant_named opening.tenant hub) (IsTurnedAway NoTenant witness before after result) (λ tenant. LendsTo opening.lending tenant witness before after result)

-- The first line was read, and this came of it.
pub record OpensBy (hub : Hub) (witness : Option Witness) (before after : State) (result : Result SessionEnd SessionFault) : Type 0 where
  pub text : Text
  pub between : State
  pub gives : GivesLine before.given.bytes between.given.bytes before.held.left between.held.left between.held.is_ended text
  pub bounds : between.held.bounds ≡ before.held.bounds
  pub nothing_written : between.taken ≡ before.taken
  pub opens : Opens hub (opening_in before.held.bounds.bytes text) witness between after result

-- A session on this hub: it found no first line, and wrote nothing, and there is no witness; or its first line opened it, or
-- was refused.
abbrev pub Converses : Hub → Option Witness → State → State → Result SessionEnd SessionFault → Type 0
Converses hub witness before after result = (FindsNoLine result before after × (after.taken ≡ before.taken) × (witness ≡ None)) ⊎ OpensBy hub witness before after result
