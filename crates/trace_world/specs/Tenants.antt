-- The tenants of a world.
pub use Rattle.trace_types.specs.world.TenantNames.{are_distinct, can_be_tenants}
use Rattle.std.specs.Prelude.{◌≡◌, ℕ, IsTrue, List, length, IfSome, Some, slice_get, slice_set}
use Rattle.std.specs.List.{All, AllByRecursion}
use Rattle.trace_types.specs.tenant.Limits.{Limits}
use Rattle.trace_types.specs.text.Text.{CanBeWritten}
use Rattle.trace_types.specs.tenant.Tenant.{Tenant, AreLegal, Steps}
use Rattle.trace_types.specs.world.Interleaving.{Call}
use Rattle.trace_types.specs.world.World.{World, IsAfter}
use Rattle.trace_types.specs.declared.request.Request.{Request}
use Rattle.trace_types.specs.declared.reply.Reply.{Reply}
use Rattle.tenant_ledger.specs.Size.{IsShort}

-- The tenant has these limits, and its rows are what some requests leave.
pub record IsTenantWith (limits : Limits) (tenant : Tenant) : Type 0 where
  pub has : tenant.limits ≡ limits
  pub legal : AreLegal limits tenant.rows

-- What holds of every world: its names can be those of tenants, and for each there is a tenant with the limits.
pub record IsWorld (world : World) : Type 0 where
  pub names : IsTrue (can_be_tenants world.names)
  pub one_each : length world.tenants ≡ length world.names
  pub tenants : All (IsTenantWith world.limits) world.tenants

-- Some calls of the tenants, each of which can be written, led to the world.
pub record IsLedTo (world : World) : Type 0 where
  pub calls : List Call
  pub written : AllByRecursion (λ call. CanBeWritten call.request) calls
  pub after : IsAfter world calls

-- The tenant at the place did a step, after which its rows are legal, and every other tenant is as it was.
pub record StepsAt (old : List Tenant) (place : ℕ) (request : Request) (reply : Reply) (new : List Tenant) : Type 0 where
  pub before : Tenant
  pub later : Tenant
  pub was : slice_get old place ≡ Some before
  pub steps : Steps before request reply later
  pub legal : AreLegal later.limits later.rows
  pub is : new ≡ slice_set old place later

-- If the request asks for a stamp, the answer has at most 18 bytes of it for each task that the tenant at the place had
-- spawned up to the event, and 9 more.
abbrev pub IsShortAt : List Tenant → ℕ → Request → Reply → Type 0
IsShortAt tenants place request answer = IfSome (slice_get tenants place) (λ tenant. IsShort tenant.rows request answer)
