-- The reply to a request for a stamp is short, if the texts of the stamps are.
use Rattle.std.proofs.Common.{ℕ, ◌+◌, ◌*◌, ◌≤◌, Option, Some, None, sym, ap, subst, inl, inr, arith}
use Rattle.trace_types.specs.tenant.Rows.{history_of}
use Rattle.trace_types.specs.tenant.Refusal.{refusal_of}
use Rattle.trace_types.specs.tenant.Tenant.{Tenant, Answers, Steps, step, step_unless}
use Rattle.trace_types.specs.declared.code.Code.{Code}
use Rattle.trace_types.specs.declared.reply.Reply.{Reply}
use Rattle.trace_types.specs.declared.request.Request.{Request}
use Rattle.trace_types.specs.declared.request.Request.TheVariants.{Stamp}
use Rattle.tenant_ledger.specs.Size.{AreShort, IsShort, spawns_up_to, stamp_bytes}

module _ (tenant : Tenant) (event : ℕ) (short : AreShort tenant.rows) where
  -- the answer has no more bytes of a stamp than the bound
  abbrev IsWithin : Reply → Type 0
  IsWithin answer = stamp_bytes answer ≤ 18 * spawns_up_to tenant.rows event + 9

  within_unless : (refusal : Option Code) → IsWithin (step_unless refusal tenant (Stamp event)).0
  within_unless None = short event
  within_unless (Some code) = omega arith

  within_step : IsWithin (step tenant (Stamp event)).0
  within_step = within_unless (refusal_of tenant.limits (history_of tenant.rows) (Stamp event))

  within_answer : (answer : Reply) → Answers tenant (Stamp event) answer → IsWithin answer
  within_answer answer (inl same) = subst IsWithin (sym same) within_step
  within_answer answer (inr lacks) = subst IsWithin (sym lacks.2) (omega arith)

  within_steps : (answer : Reply) (new : Tenant) → Steps tenant (Stamp event) answer new → IsWithin answer
  within_steps answer new (inl same) = subst IsWithin (ap (λ (given : Reply × Tenant). given.0) same) within_step
  within_steps answer new (inr lacks) = subst IsWithin (sym lacks.1) (omega arith)

pub short_answer : (tenant : Tenant) (request : Request) (answer : Reply) → AreShort tenant.rows → Answers tenant request answer → IsShort tenant.rows request answer
short_answer tenant request answer short answers event is =
    within_answer tenant event short answer (subst (λ asked. Answers tenant asked answer) is answers)

pub short_reply : (old : Tenant) (request : Request) (answer : Reply) (new : Tenant) → AreShort old.rows → Steps old request answer new → IsShort old.rows request answer
short_reply old request answer new short steps event is =
    within_steps old event short answer new (subst (λ asked. Steps old asked answer new) is steps)
