-- What holds of every world.
use Rattle.std.proofs.Common.{take, drop, ◌++◌, ◌≡◌, ℕ, zero, suc, true, List, [], ◌∷◌, length, map, slice_get, slice_set, Some, refl, sym, ap, ◌∙◌, arith, length-set, inl, inr, subst}
use Rattle.std.specs.Prelude.{slice_index_or}
use Rattle.std.specs.List.{All}
use Rattle.std.proofs.Math.Seq.{take-append_seam}
use Rattle.std.proofs.lemmas.List.{length-map, set-get_or}
use Rattle.std.proofs.lemmas.List.Elements.{All-set}
use Rattle.std.proofs.lemmas.Option.{slice_get_within, get_or_from_slice_get}
use Rattle.trace_types.specs.text.Name.{Text}
use Rattle.trace_types.specs.tenant.Limits.{Limits}
use Rattle.trace_types.specs.tenant.Tenant.{Tenant, Steps, AreLegal, fresh}
use Rattle.trace_types.specs.world.World.{World, StepsOne}
use Rattle.trace_types.specs.declared.request.Request.{Request}
use Rattle.trace_types.specs.declared.reply.Reply.{Reply}
use Rattle.trace_types.proofs.Interleaving.{limits-step}
use Rattle.trace_world.specs.Tenants.{IsTenantWith, IsWorld, StepsAt, can_be_tenants}

-- a tenant that has reported nothing
fresh_is : (limits : Limits) → IsTenantWith limits (fresh limits)
fresh_is limits = record { has = refl; legal = ([], tt, refl) }

all_fresh : (limits : Limits) (names : List Text) → All (IsTenantWith limits) (map (λ name. fresh limits) names)
all_fresh limits [] k d below = absurd (omega (arith, below))
all_fresh limits (name ∷ names) zero d below = fresh_is limits
all_fresh limits (name ∷ names) (suc k) d below = all_fresh limits names k d (omega (arith, below))

-- tenants of names that can be theirs, before they report
pub IsWorld-fresh : (names : List Text) (limits : Limits) → can_be_tenants names ≡ true
    → IsWorld (record { names = names; limits = limits; tenants = map (λ name. fresh limits) names })
IsWorld-fresh names limits can_be = record { names = can_be; one_each = length-map names (λ name. fresh limits); tenants = all_fresh limits names }

-- another tenant at one place
IsWorld-set : (world : World) (place : ℕ) (tenant : Tenant) → IsWorld world → IsTenantWith world.limits tenant
    → IsWorld (record world { tenants = slice_set world.tenants place tenant })
IsWorld-set world place tenant is legal = record {
  names = is.names;
  one_each = length-set world.tenants place tenant ∙ is.one_each;
  tenants = All-set (IsTenantWith world.limits) world.tenants place tenant legal is.tenants;
}

limits-Steps : (before : Tenant) (request : Request) (reply : Reply) (later : Tenant) → Steps before request reply later → later.limits ≡ before.limits
limits-Steps before request reply later (inl stepped) = ap (λ (done : Reply × Tenant). done.1.limits) (sym stepped) ∙ limits-step before request
limits-Steps before request reply later (inr wanting) = ap (λ (tenant : Tenant). tenant.limits) wanting.2

-- all that a slice holds is written back
pub written_back : {X : Type 0} (count : ℕ) (lent given own : List X) → length lent ≡ count → length given ≡ length lent → take count (given ++ drop (length given) own) ≡ given
written_back count lent given own lent_all given_all = rw (← lent_all, ← given_all) (take-append_seam given (drop (length given) own))

pub length-StepsAt : {old new : List Tenant} {place : ℕ} {request : Request} {reply : Reply} → StepsAt old place request reply new → length new ≡ length old
length-StepsAt {old = old} {place = place} step = ap length step.is ∙ length-set old place step.later

-- one tenant did a step
pub StepsOne-at : (world : World) (place : ℕ) (request : Request) (reply : Reply) (later : List Tenant) → StepsAt world.tenants place request reply later
    → StepsOne world place request reply (record world { tenants = later })
StepsOne-at world place request reply later step =
    record { before = step.before; later = step.later; was = step.was; steps = step.steps; is = ap (λ tenants. record world { tenants = tenants }) step.is }

pub IsWorld-at : (world : World) (place : ℕ) (request : Request) (reply : Reply) (later : List Tenant) → IsWorld world → StepsAt world.tenants place request reply later
    → IsWorld (record world { tenants = later })
IsWorld-at world place request reply later is step =
    let at : slice_index_or world.tenants place step.before ≡ step.before = get_or_from_slice_get world.tenants place step.before step.before step.was in
    let had : step.before.limits ≡ world.limits =
    (subst (IsTenantWith world.limits) at (is.tenants place step.before (slice_get_within world.tenants place step.before step.was))).has in
    let has : step.later.limits ≡ world.limits = limits-Steps step.before request reply step.later step.steps ∙ had in
    subst (λ tenants. IsWorld (record world { tenants = tenants })) (sym step.is)
    (IsWorld-set world place step.later is (record { has = has; legal = subst (λ limits. AreLegal limits step.later.rows) has step.legal }))

-- what was answered leaves its tenant as it was
pub StepsOne-stays : (world : World) (place : ℕ) (tenant : Tenant) (request : Request) (reply : Reply)
    → slice_get world.tenants place ≡ Some tenant → Steps tenant request reply tenant → StepsOne world place request reply world
StepsOne-stays world place tenant request reply was steps =
    record { before = tenant; later = tenant; was = was; steps = steps; is = ap (λ tenants. record world { tenants = tenants }) (sym stays) }
  where
    at : slice_index_or world.tenants place tenant ≡ tenant
    at = get_or_from_slice_get world.tenants place tenant tenant was

    stays : slice_set world.tenants place tenant ≡ world.tenants
    stays = ap (slice_set world.tenants place) (sym at) ∙ set-get_or world.tenants place tenant
