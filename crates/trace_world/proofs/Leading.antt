-- Some calls lead to any world whose tenants are legal.
use Rattle.std.proofs.Common.{◌≡◌, ◌≢◌, ℕ, zero, suc, ◌+◌, ◌<◌, eqb, false, List, [], ◌∷◌, ◌++◌, length, map, slice_get, Some, refl, sym, ap, ◌∙◌, arith, append-nil}
use Rattle.std.specs.List.{All, AllByRecursion}
use Rattle.std.proofs.lemmas.Bool.{cond-true, cond-false, eq-eqb, ne_eqb}
use Rattle.trace_types.specs.tenant.Limits.{Limits}
use Rattle.trace_types.specs.text.Text.{CanBeWritten}
use Rattle.trace_types.specs.tenant.Tenant.{Tenant, after, fresh}
use Rattle.trace_types.specs.world.Interleaving.{Call, calls_of, kept, tenant_after}
use Rattle.trace_types.specs.world.World.{World}
use Rattle.trace_types.specs.declared.request.Request.{Request}
use Rattle.trace_types.proofs.Interleaving.{calls_of-append, kept-append, limits-after}
use Rattle.trace_world.specs.Tenants.{IsTenantWith, IsWorld, IsLedTo}

-- the call of the tenant at this place
abbrev call_at : ℕ → Request → Call
call_at place request = record { tenant = place; request = request; is_marked = false }

abbrev AreWritten : List Call → Type 0
AreWritten calls = AllByRecursion (λ call. CanBeWritten call.request) calls

written_at : (place : ℕ) (requests : List Request) → AllByRecursion CanBeWritten requests → AreWritten (map (call_at place) requests)
written_at place [] written = tt
written_at place (request ∷ requests) written = (written.0, written_at place requests written.1)

written_more : (first second : List Call) → AreWritten first → AreWritten second → AreWritten (first ++ second)
written_more [] second one other = other
written_more (call ∷ first) second one other = (one.0, written_more first second one.1 other)

-- what a tenant's own calls keep
kept_of_own : (place : ℕ) (requests : List Request) → kept (calls_of place (map (call_at place) requests)) ≡ requests
kept_of_own place [] = refl
kept_of_own place (request ∷ requests) =
    ap kept (cond-true (eqb place place) (call_at place request ∷ calls_of place (map (call_at place) requests)) _ (eq-eqb place place refl))
    ∙ ap (λ more. request ∷ more) (kept_of_own place requests)

-- what they keep for another
calls_of_others : (place other : ℕ) (requests : List Request) → place ≢ other → calls_of other (map (call_at place) requests) ≡ []
calls_of_others place other [] differ = refl
calls_of_others place other (request ∷ requests) differ =
    cond-false (eqb place other) _ (calls_of other (map (call_at place) requests)) (ne_eqb place other differ) ∙ calls_of_others place other requests differ

-- calls that lead to these tenants, of which the first stands at this place
record LeadHere (limits : Limits) (place : ℕ) (tenants : List Tenant) : Type 0 where
  calls : List Call
  written : AreWritten calls
  none_before : (other : ℕ) → other < place → calls_of other calls ≡ []
  each : (k : ℕ) → k < length tenants → slice_get tenants k ≡ Some (tenant_after limits calls (k + place))

-- the tenant that its own requests leave
left_by : (limits : Limits) (tenant : Tenant) (is : IsTenantWith limits tenant) → tenant ≡ after (fresh limits) is.legal.0
left_by limits tenant is = λ i. record { limits = (is.has ∙ sym (limits-after (fresh limits) is.legal.0)) i; rows = sym is.legal.2 i }

-- calls that lead to one tenant more, before these
lead_first : (limits : Limits) (place : ℕ) (tenant : Tenant) (tenants : List Tenant) → IsTenantWith limits tenant → LeadHere limits (suc place) tenants → LeadHere limits place (tenant ∷ tenants)
lead_first limits place tenant tenants is later = record {
  calls = own ++ later.calls;
  written = written_more own later.calls (written_at place is.legal.0 is.legal.1) later.written;
  none_before = λ other below.
      calls_of-append other own later.calls
      ∙ ap (λ calls. calls ++ calls_of other later.calls) (calls_of_others place other is.legal.0 (omega (arith, below)))
      ∙ later.none_before other (omega (arith, below));
  each = each;
}
  where
    own : List Call
    own = map (call_at place) is.legal.0

    keeps : (other : ℕ) → kept (calls_of other (own ++ later.calls)) ≡ kept (calls_of other own) ++ kept (calls_of other later.calls)
    keeps other = ap kept (calls_of-append other own later.calls) ∙ kept-append (calls_of other own) (calls_of other later.calls)

    keeps_first : kept (calls_of place (own ++ later.calls)) ≡ is.legal.0
    keeps_first =
        keeps place
        ∙ ap (λ requests. requests ++ kept (calls_of place later.calls)) (kept_of_own place is.legal.0)
        ∙ ap (λ calls. is.legal.0 ++ kept calls) (later.none_before place (omega arith))
        ∙ append-nil is.legal.0

    keeps_later : (other : ℕ) → place ≢ other → kept (calls_of other (own ++ later.calls)) ≡ kept (calls_of other later.calls)
    keeps_later other differ = keeps other ∙ ap (λ calls. kept calls ++ kept (calls_of other later.calls)) (calls_of_others place other is.legal.0 differ)

    each : (k : ℕ) → k < length (tenant ∷ tenants) → slice_get (tenant ∷ tenants) k ≡ Some (tenant_after limits (own ++ later.calls) (k + place))
    each zero below =
        ap Some (left_by limits tenant is ∙ ap (after (fresh limits)) (sym keeps_first))
        ∙ ap (λ other. Some (tenant_after limits (own ++ later.calls) other)) (omega arith)
    each (suc k) below =
        later.each k (omega (arith, below))
        ∙ ap (λ other. Some (tenant_after limits later.calls other)) (omega arith)
        ∙ ap (λ requests. Some (after (fresh limits) requests)) (sym (keeps_later (suc k + place) (omega arith)))

lead_here : (limits : Limits) (place : ℕ) (tenants : List Tenant) → All (IsTenantWith limits) tenants → LeadHere limits place tenants
lead_here limits place [] all = record { calls = []; written = tt; none_before = λ other below. refl; each = λ k below. absurd (omega (arith, below)) }
lead_here limits place (tenant ∷ tenants) all =
    lead_first limits place tenant tenants (all 0 tenant (omega arith)) (lead_here limits (suc place) tenants (λ k d below. all (suc k) d (omega (arith, below))))

pub IsLedTo-world : (world : World) → IsWorld world → IsLedTo world
IsLedTo-world world is =
    let here : LeadHere world.limits 0 world.tenants = lead_here world.limits 0 world.tenants is.tenants in
    record {
      calls = here.calls;
      written = here.written;
      after = λ tenant below. here.each tenant below ∙ ap (λ place. Some (tenant_after world.limits here.calls place)) (omega arith);
    }
