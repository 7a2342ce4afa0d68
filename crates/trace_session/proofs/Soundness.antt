-- What stays so while it is lent to a session.
use Rattle.std.proofs.Common.{◌≡◌, Bool, true, false, [], inl, inr, refl, sym, subst, ap, ◌∙◌}
use Rattle.std.specs.Prelude.{IfSome, IsSomeAnd, MatchBool, Option, Some, None}
use Rattle.trace_types.specs.declared.code.Code.{Code}
use Rattle.trace_types.specs.declared.request.Request.{Request}
use Rattle.trace_types.specs.declared.reply.Reply.{Reply}
use Rattle.trace_types.specs.declared.reply.Reply.TheVariants.{Refused}
use Rattle.trace_types.specs.declared.code.Code.TheVariants.{ViewOnly}
use Rattle.trace_types.specs.declared.row.Row.{Row}
use Rattle.trace_types.specs.tenant.Tenant.{Tenant, Steps, fresh, step_unless, with_row}
use Rattle.trace_types.specs.tenant.Limits.{Limits}
use Rattle.tenant_desk.specs.Desks.{Desk}
use Rattle.tenant_desk.specs.Views.{Known, LooksUp, new_view}
use Rattle.trace_session.specs.Belonging.{IsDeskOf, IsViewOf, RestOf}
use Rattle.trace_session.specs.Hubs.{Owner}
use Rattle.trace_session.specs.Lent.{IsSoundDesk, IsSoundView}
use Rattle.trace_session.specs.Resting.{IsNewDesk, IsWhole, Rests}

looks_up : (old new : Known) (request : Request) (reply : Reply) → LooksUp old request reply new → IsSoundView old → IsSoundView new
looks_up old new request reply (inl (answers, enters)) holds = record { legal = enters.legal }
looks_up old new request reply (inr (refused, same)) holds = subst IsSoundView (sym same) holds

-- A view stays sound when it is asked.
pub view_responds : (old new : Known) (request : Request) (reply : Reply) (report : Bool) → MatchBool report ((reply ≡ Refused ViewOnly) × (new ≡ old)) (LooksUp old request reply new) → IsSoundView old → IsSoundView new
view_responds old new request reply true (refused, same) holds = subst IsSoundView (sym same) holds
view_responds old new request reply false looks holds = looks_up old new request reply looks holds

-- A view that has seen nothing is sound.
new_view_is_sound : (view : Known) → view.seen ≡ [] → IsSoundView view
new_view_is_sound view none = record { legal = rw none ([], tt, refl) }

-- and its limits stay
pub view_keeps_limits : (old new : Known) (request : Request) (reply : Reply) (report : Bool) → MatchBool report ((reply ≡ Refused ViewOnly) × (new ≡ old)) (LooksUp old request reply new) → new.limits ≡ old.limits
view_keeps_limits old new request reply true (refused, same) = ap (λ (view : Known). view.limits) same
view_keeps_limits old new request reply false (inl (answers, enters)) = enters.limits
view_keeps_limits old new request reply false (inr (refused, same)) = ap (λ (view : Known). view.limits) same

with_row-limits : (tenant : Tenant) (row : Option Row) → (with_row tenant row).limits ≡ tenant.limits
with_row-limits tenant None = refl
with_row-limits tenant (Some row) = refl

step_unless-limits : (refusal : Option Code) (tenant : Tenant) (request : Request) → (step_unless refusal tenant request).1.limits ≡ tenant.limits
step_unless-limits (Some code) tenant request = refl
step_unless-limits None tenant request = with_row-limits tenant _

-- A request leaves the limits of its tenant.
pub steps_keep_limits : (old new : Tenant) (request : Request) (reply : Reply) → Steps old request reply new → new.limits ≡ old.limits
steps_keep_limits old new request reply (inl stepped) = sym (ap (λ (pair : Reply × Tenant). pair.1.limits) stepped) ∙ step_unless-limits _ old request
steps_keep_limits old new request reply (inr (may, is, same)) = ap (λ (tenant : Tenant). tenant.limits) same

-- A new view of this log belongs to the tenant.
new_view_belongs : (owner : Owner) → IsViewOf owner (new_view owner.limits owner.log)
new_view_belongs owner = record { sound = new_view_is_sound (new_view owner.limits owner.log) refl; limits = refl; log = refl }

new_desk_is_sound : (desk : Desk) (limits : Limits) → desk.tenant ≡ fresh limits → desk.published ≡ [] → IsSoundDesk desk
new_desk_is_sound desk limits is none =
    let no_rows = ap (λ (tenant : Tenant). tenant.rows) is in
    record { legal = ([], tt, sym no_rows); published = none ∙ sym no_rows }

-- and so does a new desk
new_desk_belongs : (owner : Owner) (desk : Option Desk) → IsSomeAnd desk (IsNewDesk owner.limits owner.log) → IfSome desk (IsDeskOf owner)
new_desk_belongs owner None none = absurd none
new_desk_belongs owner (Some desk) new = record {
  sound = new_desk_is_sound desk owner.limits new.tenant new.published;
  limits = ap (λ (tenant : Tenant). tenant.limits) new.tenant;
  log = new.log;
}

-- All that a new tenant has belongs to it.
pub whole_belongs : (owner : Owner) (rests : Rests) → IsWhole owner.limits owner.log rests → RestOf owner rests
whole_belongs owner rests whole = record {
  desk = new_desk_belongs owner rests.desk whole.desk;
  views = λ k d within. subst (IsViewOf owner) (sym (whole.views k d within)) (new_view_belongs owner);
}
