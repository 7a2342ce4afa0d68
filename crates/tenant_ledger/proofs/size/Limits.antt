-- Legal rows are within the limits of their tenant, and so are the spawns among the rows up to an event.
use Rattle.std.proofs.Common.{◌≡◌, ℕ, ◌+◌, ◌<◌, ◌≤◌, IsTrue, List, [], ◌∷◌, length, reverse, take, Option, Some, None, refl, sym, ap, subst, ◌∙◌, cond, arith}
use Rattle.std.proofs.lemmas.Bool.Decides.{nat_tests}
use Rattle.std.proofs.lemmas.List.{reverse-append}
use Rattle.std.proofs.lemmas.List.Sums.{sum_by-append, sum_by-take-le}
use Rattle.trace_types.specs.tenant.Limits.{Limits, are_limits}
use Rattle.trace_types.specs.tenant.Rows.{History, history_of, spawn_count, starts_task}
use Rattle.trace_types.specs.tenant.Refusal.{refusal_of}
use Rattle.trace_types.specs.tenant.Tenant.{Tenant, fresh, with_row, answer_to, step_unless, step, after, AreLegal}
use Rattle.trace_types.specs.declared.code.Code.{Code}
use Rattle.trace_types.specs.declared.request.Request.{Request}
use Rattle.trace_types.specs.declared.request.Request.TheVariants.{Count}
use Rattle.trace_types.specs.declared.row.Row.{Row}
use Rattle.trace_types.proofs.Interleaving.{limits-step}
use Rattle.tenant_ledger.specs.Size.{IsWithinLimits, spawns_up_to}
use Rattle.tenant_ledger.proofs.size.Stamps.{spawn_count-cons}

-- there is room for the row, if there is one
abbrev MayAdd : Limits → History → Option Row → Type 0
MayAdd limits history None = Unit {0}
MayAdd limits history (Some row) = (length history < limits.events) × (spawn_count history + cond (starts_task row.kind) 1 0 < limits.tasks)

-- so there is for the row of a request that is not refused
has_room : (limits : Limits) (history : History) (request : Request) → spawn_count history < limits.tasks → refusal_of limits history request ≡ None
    → MayAdd limits history (answer_to history request).1
has_room limits history Count few none = tt
has_room limits history request few none = grind (arith, nat_tests)

within_after_step : (tenant : Tenant) (request : Request) → IsWithinLimits tenant.limits (history_of tenant.rows)
    → IsWithinLimits tenant.limits (history_of (step tenant request).1.rows)
within_after_step tenant request within = by (refusal_of tenant.limits (history_of tenant.rows) request) refl
  where
    with : (row : Option Row) → MayAdd tenant.limits (history_of tenant.rows) row → IsWithinLimits tenant.limits (history_of (with_row tenant row).rows)
    with None room = within
    with (Some row) room =
        let one_more = spawn_count-cons row (history_of tenant.rows) in
        subst (IsWithinLimits tenant.limits) (sym (reverse-append tenant.rows (row ∷ []))) (record { events = omega (arith, room.0); tasks = omega (arith, room.1, one_more) })

    by : (refusal : Option Code) → refusal_of tenant.limits (history_of tenant.rows) request ≡ refusal
        → IsWithinLimits tenant.limits (history_of (step_unless refusal tenant request).1.rows)
    by None is = with (answer_to (history_of tenant.rows) request).1 (has_room tenant.limits (history_of tenant.rows) request (omega (arith, within.tasks)) is)
    by (Some code) is = within

within_after : (limits : Limits) (tenant : Tenant) (requests : List Request) → tenant.limits ≡ limits → IsWithinLimits limits (history_of tenant.rows)
    → IsWithinLimits limits (history_of (after tenant requests).rows)
within_after limits tenant [] same within = within
within_after limits tenant (request ∷ requests) same within =
    within_after limits (step tenant request).1 requests (limits-step tenant request ∙ same)
    (subst (λ found. IsWithinLimits found (history_of (step tenant request).1.rows)) same
    (within_after_step tenant request (subst (λ found. IsWithinLimits found (history_of tenant.rows)) (sym same) within)))

within_limits : (limits : Limits) (rows : List Row) → 0 < limits.tasks → AreLegal limits rows → IsWithinLimits limits (history_of rows)
within_limits limits rows some legal =
    subst (λ found. IsWithinLimits limits (history_of found)) legal.2
    (within_after limits (fresh limits) legal.0 refl (record { events = omega arith; tasks = omega (arith, some) }))

-- the ranges of the limits
pub are_limits-le : (events tasks messages : ℕ) → IsTrue (are_limits events tasks messages) → (events ≤ 16384) × (0 < tasks) × (tasks ≤ 2048)
are_limits-le events tasks messages are = grind (arith, nat_tests)

-- rows that are legal within such limits are within them
pub are_within_limits : (limits : Limits) (rows : List Row) → IsTrue (are_limits limits.events limits.tasks limits.messages) → AreLegal limits rows
    → IsWithinLimits limits (history_of rows)
are_within_limits limits rows are legal =
    within_limits limits rows (are_limits-le limits.events limits.tasks limits.messages are).1 legal

-- a history has the spawns of its rows
spawn_count-reverse : (rows : List Row) → spawn_count (history_of rows) ≡ spawn_count rows
spawn_count-reverse [] = refl
spawn_count-reverse (row ∷ rows) =
    ap spawn_count (reverse-append (row ∷ []) rows)
    ∙ omega (arith, sum_by-append (λ (r : Row). cond (starts_task r.kind) 1 0) (reverse rows) (row ∷ []), sum_by-append (λ (r : Row). cond (starts_task r.kind) 1 0) (row ∷ []) rows, spawn_count-reverse rows)

-- there are no more spawns up to an event than there are
pub spawns_up_to-le : (rows : List Row) (event : ℕ) → spawns_up_to rows event ≤ spawn_count (history_of rows)
spawns_up_to-le rows event =
    omega (arith, spawn_count-reverse rows, spawn_count-reverse (take event rows), sum_by-take-le (λ (r : Row). cond (starts_task r.kind) 1 0) rows event)
