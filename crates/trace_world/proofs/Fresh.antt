-- Tenants that have reported nothing.
use Rattle.std.proofs.Common.{◌≡◌, ℕ, zero, suc, ◌<◌, List, [], ◌∷◌, length, map, slice_get, Some, refl, sym, subst, arith}
use Rattle.trace_types.specs.text.Name.{Text}
use Rattle.trace_types.specs.tenant.Limits.{Limits}
use Rattle.trace_types.specs.tenant.Tenant.{fresh}
use Rattle.trace_types.specs.world.World.{World, IsAfter}

-- each of them
fresh_at : (limits : Limits) (names : List Text) (tenant : ℕ) → tenant < length (map (λ name. fresh limits) names)
    → slice_get (map (λ name. fresh limits) names) tenant ≡ Some (fresh limits)
fresh_at limits [] tenant below = absurd (omega (arith, below))
fresh_at limits (name ∷ names) zero below = refl
fresh_at limits (name ∷ names) (suc tenant) below = fresh_at limits names tenant (omega (arith, below))

-- no call led to them
pub IsAfter-fresh : (limits : Limits) (names named : List Text) (world : World) → world ≡ record { names = named; limits = limits; tenants = map (λ name. fresh limits) names } → IsAfter world []
IsAfter-fresh limits names named world is = subst (λ w. IsAfter w []) (sym is) (fresh_at limits names)
