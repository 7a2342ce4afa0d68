-- Each tenant of a hub has a log of its own.
use Rattle.std.proofs.Common.{◌≡◌, Bool, true, false, List, [], ◌∷◌, inl, inr, refl, ap, sym, subst, ◌∙◌, Result}
use Rattle.std.proofs.lemmas.List.Elements.{All-head, All-tail}
use Rattle.std.proofs.lemmas.Option.{same_Some}
use Rattle.std.specs.Prelude.{All, MatchOption, Option, Some, None}
use Rattle.trace_types.proofs.Names.{is_same_iff}
use Rattle.trace_types.specs.tenant.Limits.{Limits}
use Rattle.trace_types.specs.tenant.Tenant.{Tenant}
use Rattle.trace_types.specs.text.Name.{Text, is_same}
use Rattle.trace_types.specs.declared.code.Code.{Code}
use Rattle.trace_types.specs.declared.code.Code.TheVariants.{NoTenant}
use Rattle.trace_types.specs.declared.request.Request.{Request}
use Rattle.trace_types.specs.declared.reply.Reply.{Reply}
use Rattle.tenant_desk.specs.Histories.{Line, Log}
use Rattle.trace_session.specs.Conversations.{IsTurnedAway, Lends, LendsTo}
use Rattle.trace_session.specs.Hubs.{Hub, IsHubOf, Owner, tenant_named}
use Rattle.trace_session.specs.OwnLogs.{IsWitnessOf}
use Rattle.trace_session.specs.State.{State}
use Rattle.trace_session.specs.Witnesses.{Witness}
use Rattle.trace_session.specs.declared.hub_session.Lending.{Lending}
use Rattle.trace_session.specs.declared.hub_session.Lending.TheVariants as lending
use Rattle.trace_session.specs.declared.session_end.SessionEnd.{SessionEnd}
use Rattle.trace_session.specs.declared.session_end.SessionFault.{SessionFault}
use Rattle.trace_session.proofs.Tenants.{named_here, named_later}

module _ (P : Owner → Type 0) (name : Text) (tenant : Owner) where
  -- whether the first tenant has the name
  found_by : (first : Owner) (others : Hub) (same : Bool) → is_same first.name name ≡ same → All P (first ∷ others) → tenant_named name (first ∷ others) ≡ Some tenant
      → (tenant_named name others ≡ Some tenant → (tenant.name ≡ name) × P tenant) → (tenant.name ≡ name) × P tenant
  found_by first others true same all found later =
      let it : first ≡ tenant = same_Some first tenant (sym (named_here name first others same) ∙ found) in
      subst (λ (one : Owner). (one.name ≡ name) × P one) it ((is_same_iff first.name name).0 same, All-head P first others all)
  found_by first others false other all found later = later (sym (named_later name first others other) ∙ found)

  -- What is found by a name has it, and what holds of each tenant holds of it.
  found_has : (hub : Hub) → All P hub → tenant_named name hub ≡ Some tenant → (tenant.name ≡ name) × P tenant
  found_has [] all found = absurd (cc found)
  found_has (first ∷ others) all found =
      found_by first others (is_same first.name name) refl all found (λ later. found_has others (All-tail P first others all) later)

-- The log of the tenant of a name names it.
log_names : (names : List Text) (limits : Limits) (hub : Hub) (name : Text) (tenant : Owner) → IsHubOf names limits hub → tenant_named name hub ≡ Some tenant → tenant.log.tenant ≡ name
log_names names limits hub name tenant is found =
    let has = found_has (λ one. one.log.tenant ≡ one.name) name tenant hub is.logged found in
    has.1 ∙ has.0

-- Tenants of two names have two logs.
pub own_logs : (names : List Text) (limits : Limits) (hub : Hub) (name other : Text) (one two : Owner) → IsHubOf names limits hub
    → tenant_named name hub ≡ Some one → tenant_named other hub ≡ Some two → one.log ≡ two.log → name ≡ other
own_logs names limits hub name other one two is first second same =
    sym (log_names names limits hub name one is first) ∙ ap (λ (log : Log). log.tenant) same ∙ log_names names limits hub other two is second

module _ (witness : Witness) (before after : State) (result : Result SessionEnd SessionFault) where
  -- the log of a witness is that of the tenant who lent
  log_lent : {S : Type 0} (IsSound : S → Type 0) (tenant_of : S → Tenant) (log_of : S → Log) (Does : S → Request → Reply → S → Type 0) (code : Code) (owner : Owner)
      → Lends IsSound tenant_of log_of Does code owner (Some witness) before after result → witness.began.log ≡ owner.log
  log_lent IsSound tenant_of log_of Does code owner (inl away) = absurd (cc away.unwitnessed)
  log_lent IsSound tenant_of log_of Does code owner (inr held) = ap (λ (line : Line). line.log) held.witnessed.0 ∙ held.lent_belongs.log

  log_lent_to : (asked : Lending) (owner : Owner) → LendsTo asked owner (Some witness) before after result → witness.began.log ≡ owner.log
  log_lent_to lending.Desk owner lends = log_lent _ _ _ _ _ owner lends
  log_lent_to lending.View owner lends = log_lent _ _ _ _ _ owner lends

  log_opened : (asked : Lending) (found : Option Owner)
      → MatchOption found (IsTurnedAway NoTenant (Some witness) before after result) (λ tenant. LendsTo asked tenant (Some witness) before after result)
      → (owner : Owner) × (found ≡ Some owner) × (witness.began.log ≡ owner.log)
  log_opened asked None away = absurd (cc away.unwitnessed)
  log_opened asked (Some owner) lends = (owner, refl, log_lent_to asked owner lends)

-- The log of a session's witness names the tenant that its first line named.
witness_names : (names : List Text) (limits : Limits) (hub : Hub) (name : Text) (witness : Witness) → IsHubOf names limits hub → IsWitnessOf hub name witness → witness.began.log.tenant ≡ name
witness_names names limits hub name witness is held =
    let of = log_opened witness held.before held.after held.result held.lending (tenant_named name hub) held.opens in
    ap (λ (log : Log). log.tenant) of.2 ∙ log_names names limits hub name of.0 is of.1

-- So witnesses of one log are of sessions for one tenant.
pub one_log_one_tenant : (names : List Text) (limits : Limits) (hub : Hub) (name other : Text) (first second : Witness) → IsHubOf names limits hub
    → IsWitnessOf hub name first → IsWitnessOf hub other second → first.began.log ≡ second.began.log → name ≡ other
one_log_one_tenant names limits hub name other first second is one two same =
    sym (witness_names names limits hub name first is one) ∙ ap (λ (log : Log). log.tenant) same ∙ witness_names names limits hub other second is two
