-- Rows that some requests leave are a legal history.
use Rattle.std.proofs.Common.{◌≡◌, List, [], ◌∷◌, Option, Some, None, refl, sym, subst, arith}
use Rattle.std.proofs.lemmas.Bool.Decides.{nat_tests}
use Rattle.std.proofs.lemmas.List.{reverse-append}
use Rattle.tenant_ledger.proofs.Words.{Limits, History, history_of, refusal_of, Tenant, fresh, with_row, answer_to, step_unless, step, after, AreLegal, Code, Row, Request, Allows, IsLegal}
use Rattle.trace_types.specs.declared.request.Request.TheVariants.{Count}

-- after these rows the new one is allowed, if there is one
abbrev IsAllowed : History → Option Row → Type 0
IsAllowed history None = Unit {0}
IsAllowed history (Some row) = Allows history row.task row.kind row.name

-- so is the row of a request that is not refused
allowed_row : (limits : Limits) (history : History) (request : Request) → refusal_of limits history request ≡ None → IsAllowed history (answer_to history request).1
allowed_row limits history Count none = tt
allowed_row limits history request none = grind (arith, nat_tests)

legal_after_step : (tenant : Tenant) (request : Request) → IsLegal (history_of tenant.rows) → IsLegal (history_of (step tenant request).1.rows)
legal_after_step tenant request legal = by (refusal_of tenant.limits (history_of tenant.rows) request) refl
  where
    legal_with : (row : Option Row) → IsAllowed (history_of tenant.rows) row → IsLegal (history_of (with_row tenant row).rows)
    legal_with None allowed = legal
    legal_with (Some row) allowed = subst IsLegal (sym (reverse-append tenant.rows (row ∷ []))) (allowed, legal)

    by : (refusal : Option Code) → refusal_of tenant.limits (history_of tenant.rows) request ≡ refusal → IsLegal (history_of (step_unless refusal tenant request).1.rows)
    by None is = legal_with (answer_to (history_of tenant.rows) request).1 (allowed_row tenant.limits (history_of tenant.rows) request is)
    by (Some code) is = legal

legal_after : (tenant : Tenant) (requests : List Request) → IsLegal (history_of tenant.rows) → IsLegal (history_of (after tenant requests).rows)
legal_after tenant [] legal = legal
legal_after tenant (request ∷ requests) legal = legal_after (step tenant request).1 requests (legal_after_step tenant request legal)

pub IsLegal_from_AreLegal : (limits : Limits) (rows : List Row) → AreLegal limits rows → IsLegal (history_of rows)
IsLegal_from_AreLegal limits rows legal = subst (λ found. IsLegal (history_of found)) legal.2 (legal_after (fresh limits) legal.0 tt)
