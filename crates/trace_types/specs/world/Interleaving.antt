-- Calls of many tenants, and what each is due: what the tenant's own requests alone give.
use Rattle.std.specs.Prelude.{ℕ, Bool, not, IsTrue, List, [], ◌∷◌, ◌++◌, map, filter, if◌then◌else◌, ◌==◌}
use Rattle.trace_types.specs.tenant.Limits.{Limits}
use Rattle.trace_types.specs.tenant.Tenant.{Tenant, fresh, replies, after, MayLackMemory}
use Rattle.trace_types.specs.declared.code.Code.TheVariants.{NoMemory}
use Rattle.trace_types.specs.declared.request.Request.{Request}
use Rattle.trace_types.specs.declared.reply.Reply.{Reply}
use Rattle.trace_types.specs.declared.reply.Reply.TheVariants.{Refused}

-- One request of one tenant (by its place), marked where it was answered with want of memory.
pub record Call : Type 0 where
  pub tenant : ℕ
  pub request : Request
  pub is_marked : Bool

-- the calls of the tenant, in order
abbrev pub calls_of : ℕ → List Call → List Call
calls_of tenant calls = filter (λ call. call.tenant == tenant) calls

-- the requests of the calls that are not marked
abbrev pub kept : List Call → List Request
kept calls = map (λ call. call.request) (filter (λ call. not call.is_marked) calls)

-- the replies that a tenant's requests alone give
abbrev pub alone : Limits → List Request → List Reply
alone limits requests = replies (fresh limits) requests

-- the tenant that its own calls leave, whatever the others asked
abbrev pub tenant_after : Limits → List Call → ℕ → Tenant
tenant_after limits calls tenant = after (fresh limits) (kept (calls_of tenant calls))

-- the last of the replies, and the first argument where there is none
abbrev pub last : Reply → List Reply → Reply
last reply [] = reply
last reply (next ∷ replies) = last next replies

-- The reply that is due to a call after those before it: want of memory where the call is marked, else the last
-- of the replies that the tenant's own unmarked requests, up to and with this one, alone give.
abbrev pub due_reply : Limits → List Call → Call → Reply
due_reply limits before call =
    if call.is_marked then Refused NoMemory
    else last (Refused NoMemory) (alone limits (kept (calls_of call.tenant (before ++ call ∷ []))))

-- The call is marked only where want of memory may be the answer.
abbrev pub MayBeMarked : Limits → List Call → Call → Type 0
MayBeMarked limits before call =
    IsTrue call.is_marked → MayLackMemory (tenant_after limits before call.tenant) call.request
