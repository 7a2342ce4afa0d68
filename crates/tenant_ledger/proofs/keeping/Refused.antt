-- Which refusal is due, and what a request that is not refused steps to.
use Rattle.std.proofs.Common.{◌≡◌, ℕ, suc, Bool, true, false, List, [], ◌∷◌, ◌++◌, length, Option, Some, None, Result, Ok, Err, IsTrue, refl, sym, ap, ◌∙◌, subst, inl, inr}
use Rattle.std.specs.Result.{result_err}
use Rattle.tenant_ledger.proofs.Words.{AllByRecursion, cases_Bool, cond-false, length-reverse, Limits, History, history_of, first_code, refusals, refusal_of, reported, Steps, step_unless, answer_to, accepted, row_after, with_row, may_lack_memory, Tenant, Answers, reply_to_view, is_report, step, Text, Code, Reply, Reported, Request, Row, Kind, Contents, Decides, IsNamed, refusals_of_report, history_in, tenant_of, fresh, after, AreLegal, Accepted}
use Rattle.trace_types.specs.declared.request.Request.TheVariants as request
use Rattle.trace_types.specs.text.Text.{CanBeWritten}
use Rattle.trace_types.proofs.Interleaving.{after-push, limits-after}

-- the first code that applies, or else the first of what comes after
abbrev or_later : Option Code → Option Code → Option Code
or_later None later = later
or_later (Some code) later = Some code

first_code-append : (refusals others : List (Bool × Code)) → first_code (refusals ++ others) ≡ or_later (first_code refusals) (first_code others)
first_code-append [] others = refl
first_code-append (refusal ∷ rest) others = elim (cases_Bool refusal.0) [ inl is ↦ rw is refl | inr is ↦ rw is (first_code-append rest others) ]

-- so it decides, whatever else may apply
pub decides_by_first : {A : Type 0} (refusals : List (Bool × Code)) (outcome : Result A Code) → result_err outcome ≡ first_code refusals → Decides refusals outcome
decides_by_first refusals (Ok value) is = λ others. first_code-append refusals others ∙ ap (λ code. or_later code (first_code others)) (sym is)
decides_by_first refusals (Err code) is = λ others. first_code-append refusals others ∙ ap (λ code. or_later code (first_code others)) (sym is)

-- a request by what it reports: the answer and the refusals of a report are those of its kind
abbrev IsRequestOf : Limits → History → Request → Option Reported → Type 0
IsRequestOf limits history request None = is_report request ≡ false
IsRequestOf limits history request (Some report) =
    (answer_to history request ≡ accepted history report.task report.kind report.name) × (refusals limits history request ≡ refusals_of_report limits history report)

is_request_of : (limits : Limits) (history : History) (request : Request) → IsRequestOf limits history request (reported request)
is_request_of limits history request.Count = refl
is_request_of limits history request = search

pub by_report : (limits : Limits) (history : History) (request : Request) (report : Option Reported) → report ≡ reported request → IsRequestOf limits history request report
by_report limits history request report is = subst (IsRequestOf limits history request) (sym is) (is_request_of limits history request)

pub refused_for : (book : Contents) (request : Request) {report : Reported} → Some report ≡ reported request
    → refusals book.limits (history_in book) request ≡ refusals_of_report book.limits (history_in book) report
refused_for book request {report} is = (by_report book.limits (history_in book) request (Some report) is).1

-- a report may lack memory
pub report_may_lack : (request : Request) → is_report request ≡ true → IsTrue (may_lack_memory request)
report_may_lack request.Count report = cc
report_may_lack request report = cc

-- a report names what its kind names
abbrev IsNamedIn : Option Reported → Type 0
IsNamedIn None = Unit {0}
IsNamedIn (Some report) = IsNamed report.kind report.name

named_in : (request : Request) → IsNamedIn (reported request)
named_in request.Count = tt
named_in request = search

pub is_named : (request : Request) {report : Reported} → Some report ≡ reported request → IsNamed report.kind report.name
is_named request is = subst IsNamedIn (sym is) (named_in request)

-- else its row is added
pub steps_to_row : (book : Contents) (request : Request) (task : Text) (kind : Kind) (name : Option Text)
    → refusal_of book.limits (history_in book) request ≡ None → answer_to (history_in book) request ≡ accepted (history_in book) task kind name
    → step (tenant_of book) request ≡ (Accepted (suc (length book.rows)), with_row (tenant_of book) (Some (row_after (history_in book) task kind name)))
steps_to_row book request task kind name none answer =
    ap (λ refusal. step_unless refusal (tenant_of book) request) none
    ∙ ap (λ (given : Reply × Option Row). (given.0, with_row (tenant_of book) given.1)) answer
    ∙ ap (λ n. (Accepted (suc n), with_row (tenant_of book) (Some (row_after (history_in book) task kind name)))) (length-reverse book.rows)

-- a request that reports nothing leaves the tenant as it was
query_leaves : (tenant : Tenant) (request : Request) → is_report request ≡ false → (answer_to (history_of tenant.rows) request).1 ≡ None
query_leaves tenant request.Count query = refl
query_leaves tenant request query = cc

-- so it steps as it is answered
pub query_steps : (tenant : Tenant) (request : Request) (answer : Reply) → is_report request ≡ false → Answers tenant request answer → Steps tenant request answer tenant
query_steps tenant request answer query (inr lacked) = inr (lacked.1, lacked.2, refl)
query_steps tenant request answer query (inl answered) =
    let stays : (step tenant request).1 ≡ tenant = by (refusal_of tenant.limits (history_of tenant.rows) request) in
    inl (λ i. ((sym (answered ∙ cond-false (is_report request) _ _ query)) i, stays i))
  where
    by : (refusal : Option Code) → (step_unless refusal tenant request).1 ≡ tenant
    by None = ap (with_row tenant) (query_leaves tenant request query)
    by (Some code) = refl

pub order_steps : (tenant : Tenant) (first second : ℕ) (answer : Reply) → answer ≡ reply_to_view tenant (request.Order first second)
    → Steps tenant (request.Order first second) answer tenant
order_steps tenant first second answer answered = query_steps tenant (request.Order first second) answer refl (inl answered)

pub count_steps : (tenant : Tenant) (answer : Reply) → answer ≡ reply_to_view tenant request.Count → Steps tenant request.Count answer tenant
count_steps tenant answer answered = query_steps tenant request.Count answer refl (inl answered)

-- ---- legal rows stay legal with the row of a report that is not refused

all_with_one_more : (requests : List Request) (request : Request) → AllByRecursion CanBeWritten requests → CanBeWritten request
    → AllByRecursion CanBeWritten (requests ++ request ∷ [])
all_with_one_more [] request all one = (one, tt)
all_with_one_more (first ∷ requests) request all one = (all.0, all_with_one_more requests request all.1 one)

pub AreLegal-push : (limits : Limits) (rows : List Row) (request : Request) (row : Row) → CanBeWritten request
    → refusal_of limits (history_of rows) request ≡ None → (answer_to (history_of rows) request).1 ≡ Some row
    → AreLegal limits rows → AreLegal limits (rows ++ row ∷ [])
AreLegal-push limits rows request row written unrefused answered legal =
    let tenant : Tenant = record { limits = limits; rows = rows } in
    let same : after (fresh limits) legal.0 ≡ tenant = λ i. record { limits = limits-after (fresh limits) legal.0 i; rows = legal.2 i } in (
      legal.0 ++ request ∷ [],
      all_with_one_more legal.0 request legal.1 written,
      ap (λ (t : Tenant). t.rows) (after-push (fresh limits) legal.0 request ∙ ap (λ t. (step t request).1) same
          ∙ ap (λ refusal. (step_unless refusal tenant request).1) unrefused ∙ ap (with_row tenant) answered),
    )
