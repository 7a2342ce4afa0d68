-- What a view sees once it entered, and what it may put together.
use Rattle.std.proofs.Common.{◌≡◌, ℕ, Bool, false, MatchBool, IsTrue, List, [], ◌∷◌, ◌+◌, ◌*◌, ◌≤◌, refl, sym, ◌∙◌, subst, inl, inr, arith}
use Rattle.std.specs.Prelude.{Option, Some, None, Result, Ok, Err, MatchResult}
use mathlib.Core.List.{IsPrefix}
use Rattle.tenant_ledger.proofs.Words.{Limits, Row, Tenant, Request, Reply, Refused, Answers, AreLegal, is_report, tenant_of}
use Rattle.trace_types.specs.tenant.Limits.{are_limits}
use Rattle.trace_types.specs.clock.Id.{Id}
use Rattle.trace_types.specs.clock.EventTree.{EventTree}
use Rattle.trace_types.specs.text.StampText.{stamp_text}
use Rattle.trace_types.specs.declared.code.Code.{Code}
use Rattle.trace_types.specs.declared.code.Code.TheVariants.{ViewOnly}
use Rattle.trace_types.specs.declared.reply.Reply.TheVariants as variants
use Rattle.trace_types.specs.declared.request.Request.TheVariants.{Stamp}
use Rattle.tenant_ledger.specs.Size.{IsShort, spawns_up_to, stamp_bytes}
use Rattle.tenant_ledger.proofs.size.Replies.{short_answer}
use Rattle.tenant_ledger.proofs.size.StampTexts.{stamp_text_within_spawns}
use Rattle.tenant_desk.specs.Events.{Published}
use Rattle.tenant_desk.specs.Histories.{Log}
use Rattle.tenant_desk.specs.Rules.{IsOfDesk, IsOfLog, StaysOf, HasEntered, Sees}
use Rattle.tenant_desk.specs.Views.{Known, BeginWithEach, LooksUp, Responds}
use Rattle.tenant_desk.specs.declared.publishing_rule.Sight.{Sight}
use Rattle.tenant_desk.proofs.Beginnings.{begins_with_itself, begins_through}

-- a longer list begins with each that a shorter one begins with
pub begin_through : (rows more : List Row) (lists : List (List Row)) → IsPrefix rows more → BeginWithEach rows lists → BeginWithEach more lists
begin_through rows more [] longer begin = tt
begin_through rows more (list ∷ lists) longer begin = (begins_through list rows more begin.0 longer, begin_through rows more lists longer begin.1)

-- so the longer of two lists that are put together begins with both, and with each that was before
pub put_longer : (seen told : List Row) (lists : List (List Row)) → IsPrefix seen told → BeginWithEach seen lists → BeginWithEach told (told ∷ seen ∷ lists)
put_longer seen told lists longer begin = (begins_with_itself told, (longer, begin_through seen told lists longer begin))

pub put_shorter : (seen told : List Row) (lists : List (List Row)) → IsPrefix told seen → BeginWithEach seen lists → BeginWithEach seen (told ∷ seen ∷ lists)
put_shorter seen told lists shorter begin = (shorter, (begins_with_itself seen, begin))

-- what is known of a desk is known of its log
pub of_log : (log : Log) (limits : Limits) (known : Option Sight) → IsOfDesk log limits known → IsOfLog log known
of_log log limits None of = absurd of
of_log log limits (Some sight) of = of.0

-- what was entered is of the log of which something was known
pub entered_log : (log : Log) (known now : Option Sight) (published : Published) → IsOfLog log known → Sees known published published now → published.front.log ≡ log
entered_log log None now published of sees = absurd of
entered_log log (Some sight) now published of sees = sym sees.2.0.0 ∙ of

-- and of the desk, with the same limits
pub entered_desk : (log : Log) (limits : Limits) (known now : Option Sight) (published : Published) → IsOfDesk log limits known
    → Sees known published published now → (published.front.log ≡ log) × (published.events.limits ≡ limits)
entered_desk log limits None now published of sees = absurd of
entered_desk log limits (Some sight) now published of sees = (sym sees.2.0.0 ∙ of.0, sym sees.2.0.1 ∙ of.1)

-- which is then known
pub stays_of : (known now : Option Sight) (published : Published) → Sees known published published now → StaysOf known now
stays_of known now published sees log limits of =
    subst (IsOfDesk log limits) (sym sees.1) (entered_desk log limits known now published of sees)

pub known_of_entered : (log : Log) (limits : Limits) (known now : Option Sight) (published : Published) → IsOfDesk log limits known
    → Sees known published published now → IsOfDesk published.front.log limits now
known_of_entered log limits known now published of sees =
    let is = entered_desk log limits known now published of sees in
    subst (IsOfDesk published.front.log limits) (sym sees.1) (refl, is.1)

-- the answer at what was entered is one at the rows that are then seen
pub looks_up : (old : Known) (known now : Option Sight) (published : Published) (request : Request) (reply : Reply)
    → IsOfDesk old.log old.limits known → BeginWithEach old.seen old.met → HasEntered known old.seen published now
    → Answers (tenant_of published.events) request reply
    → LooksUp old request reply (record { seen = published.front.rows; met = []; limits = old.limits; log = published.front.log })
looks_up old known now published request reply of begin entered answered =
    let is = entered_desk old.log old.limits known now published of entered.sees in
    let same : tenant_of published.events ≡ record { limits = old.limits; rows = published.front.rows } =
    λ i. record { limits = is.1 i; rows = (sym entered.sees.0.rows) i } in
    inl (
      subst (λ (tenant : Tenant). Answers tenant request reply) same answered,
      record {
        legal = subst (λ (tenant : Tenant). AreLegal tenant.limits tenant.rows) same entered.sees.0.events.legal;
        later = entered.begins;
        heard = begin_through old.seen published.front.rows old.met entered.begins begin;
        met = refl;
        limits = refl;
        log = is.0;
      },
    )

-- so a view that is asked answers as it is due, where that is what it has seen afterwards
pub responds : (old new : Known) (known now : Option Sight) (published : Published) (request : Request) (reply : Reply)
    → is_report request ≡ false → IsOfDesk old.log old.limits known → BeginWithEach old.seen old.met → HasEntered known old.seen published now
    → Answers (tenant_of published.events) request reply
    → new ≡ record { seen = published.front.rows; met = []; limits = old.limits; log = published.front.log }
    → Responds old request reply new
responds old new known now published request reply query of begin entered answered is =
    subst (λ (report : Bool). MatchBool report ((reply ≡ Refused ViewOnly) × (new ≡ old)) (LooksUp old request reply new)) (sym query)
    (subst (λ (known : Known). LooksUp old request reply known) (sym is) (looks_up old known now published request reply of begin entered answered))

-- and so does one that gives the parts of a stamp, or says why not
pub parts_respond : (old new : Known) (known now : Option Sight) (published : Published) (event : ℕ) (found : Result (Id × EventTree) Code)
    → IsOfDesk old.log old.limits known → BeginWithEach old.seen old.met → HasEntered known old.seen published now
    → MatchResult found (λ parts. Answers (tenant_of published.events) (Stamp event) (variants.Stamp (stamp_text parts.0 parts.1)))
    (λ code. Answers (tenant_of published.events) (Stamp event) (Refused code))
    → new ≡ record { seen = published.front.rows; met = []; limits = old.limits; log = published.front.log }
    → MatchResult found (λ parts. Responds old (Stamp event) (variants.Stamp (stamp_text parts.0 parts.1)) new) (λ code. Responds old (Stamp event) (Refused code) new)
parts_respond old new known now published event (Ok parts) of begin entered answered is =
    responds old new known now published (Stamp event) (variants.Stamp (stamp_text parts.0 parts.1)) refl of begin entered answered is
parts_respond old new known now published event (Err code) of begin entered answered is =
    responds old new known now published (Stamp event) (Refused code) refl of begin entered answered is

module _ (old : Known) (reply : Reply) (new : Known) (event : ℕ)
    (are : IsTrue (are_limits old.limits.events old.limits.tasks old.limits.messages)) where
  short_look : LooksUp old (Stamp event) reply new → stamp_bytes reply ≤ 18 * spawns_up_to new.seen event + 9
  short_look (inl (answers, enters)) =
      let ranges = subst (λ (limits : Limits). IsTrue (are_limits limits.events limits.tasks limits.messages)) (sym enters.limits) are in
      short_answer (record { limits = new.limits; rows = new.seen }) (Stamp event) reply (stamp_text_within_spawns new.limits new.seen ranges enters.legal) answers event refl
  short_look (inr (gone, same)) = subst (λ given. stamp_bytes given ≤ 18 * spawns_up_to new.seen event + 9) (sym gone) (omega arith)

-- the reply to a request for a stamp is short
pub short_response : (old : Known) (request : Request) (reply : Reply) (new : Known) → IsTrue (are_limits old.limits.events old.limits.tasks old.limits.messages)
    → Responds old request reply new → IsShort new.seen request reply
short_response old request reply new are responds event is =
    short_look old reply new event are (subst (λ asked. Responds old asked reply new) is responds)
