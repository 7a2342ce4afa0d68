-- All tenants together.
use Rattle.std.specs.Prelude.{◌≡◌, ℕ, ◌<◌, Bool, true, false, List, ◌∷◌, [], ◌++◌, length, Some, slice_get, slice_set}
use Rattle.trace_types.specs.text.Name.{Text}
use Rattle.trace_types.specs.tenant.Limits.{Limits}
use Rattle.trace_types.specs.tenant.Tenant.{Tenant, Steps}
use Rattle.trace_types.specs.world.Interleaving.{Call, tenant_after, due_reply, MayBeMarked}
use Rattle.trace_types.specs.declared.code.Code.TheVariants.{NoMemory}
use Rattle.trace_types.specs.declared.request.Request.{Request}
use Rattle.trace_types.specs.declared.reply.Reply.{Reply}
use Rattle.trace_types.specs.declared.reply.Reply.TheVariants.{Refused}

-- The tenants' names, the limits that each of them has by itself, and the tenants at the places of their names.
pub record World : Type 0 where
  pub names : List Text
  pub limits : Limits
  pub tenants : List Tenant

-- The tenant at the place did a step, and every other tenant is as it was.
pub record StepsOne (old : World) (tenant : ℕ) (request : Request) (reply : Reply) (new : World) : Type 0 where
  pub before : Tenant
  pub later : Tenant
  pub was : slice_get old.tenants tenant ≡ Some before
  pub steps : Steps before request reply later
  pub is : new ≡ record old { tenants = slice_set old.tenants tenant later }

-- Each tenant is as its own calls, of these, leave it.
abbrev pub IsAfter : World → List Call → Type 0
IsAfter world calls =
    (tenant : ℕ) → tenant < length world.tenants → slice_get world.tenants tenant ≡ Some (tenant_after world.limits calls tenant)

-- whether the reply tells want of memory
abbrev pub tells_want : Reply → Bool
tells_want (Refused NoMemory) = true
tells_want reply = false

-- the call to which this was the reply
abbrev pub call_with : ℕ → Request → Reply → Call
call_with tenant request reply = record { tenant = tenant; request = request; is_marked = tells_want reply }

-- Whatever calls of all tenants led to the old world, the reply is the one that is due, and with this call they lead
-- to the new world.
abbrev pub IsDue : World → ℕ → Request → Reply → World → Type 0
IsDue old tenant request reply new =
    (calls : List Call) → IsAfter old calls →
    (reply ≡ due_reply old.limits calls (call_with tenant request reply))
    × MayBeMarked old.limits calls (call_with tenant request reply)
    × IsAfter new (calls ++ call_with tenant request reply ∷ [])
