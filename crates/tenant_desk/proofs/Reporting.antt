-- What a report does to a tenant.
use Rattle.std.proofs.Common.{◌≡◌, ℕ, suc, true, false, length, Option, Some, None, IsTrue, refl, ap, inr}
use Rattle.tenant_ledger.proofs.Words.{Row, Tenant, Request, Reply, Code, Steps, Accepted, Refused, NoMemory, step, step_unless, with_row, is_report, may_lack_memory, refusal_of, history_of, reported, Reported}
use Rattle.trace_types.specs.declared.request.Request.TheVariants as request

-- What a request reports says that it is a report.
pub report_of : (request : Request) (report : Reported) → reported request ≡ Some report → is_report request ≡ true
report_of request.Count report is = cc
report_of request report is = cc

pub query_of : (request : Request) → reported request ≡ None → is_report request ≡ false
query_of request.Count is = refl
query_of request is = cc

-- A report that is accepted was not refused, and so may lack memory.

may_lack : (request : Request) → is_report request ≡ true → IsTrue (may_lack_memory request)
may_lack request.Count report = cc
may_lack request report = cc

unrefused : (refusal : Option Code) (tenant new : Tenant) (request : Request) (event : ℕ) → step_unless refusal tenant request ≡ (Accepted event, new) → refusal ≡ None
unrefused None tenant new request event is = refl
unrefused (Some code) tenant new request event is =
    let replies : Refused code ≡ Accepted event = ap (λ (stepped : Reply × Tenant). stepped.0) is in absurd (cc replies)

-- It steps as it is done: it was published, or it was refused for want of memory and nothing changed.
pub steps_done : (tenant : Tenant) (row : Row) (request : Request) → is_report request ≡ true
    → step tenant request ≡ (Accepted (suc (length tenant.rows)), with_row tenant (Some row))
    → Steps tenant request (Refused NoMemory) tenant
steps_done tenant row request report stepped =
    inr (
      (may_lack request report, unrefused (refusal_of tenant.limits (history_of tenant.rows) request) tenant (with_row tenant (Some row)) request (suc (length tenant.rows)) stepped),
      refl,
      refl,
    )
