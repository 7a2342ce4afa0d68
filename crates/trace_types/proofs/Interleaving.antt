-- What one more call does to each tenant, and to the reply that is due.
use Rattle.std.proofs.Common.{◌≡◌, ◌≢◌, ℕ, ◌<◌, Bool, true, false, not, cond, eqb, List, [], ◌∷◌, ◌++◌, length, map, filter, slice_get, slice_set, Option, Some, None, refl, sym, ap, subst, ◌∙◌, inl, inr, arith, append-nil, length-set}
use Rattle.std.specs.Prelude.{◌⊎◌}
use Rattle.std.proofs.lemmas.Bool.{eq-eqb, ne_eqb, cases_eq, cond-true, cond-false, false≢true, and_parts, not-true}
use Rattle.std.specs.List.{list_all}
use Rattle.std.proofs.lemmas.List.{map-append, get_or-set_same, get_or-set_other}
use Rattle.std.proofs.lemmas.List.Elements.{filter-append}
use Rattle.std.proofs.lemmas.Option.{same_Some, slice_get-get_or}
use Rattle.trace_types.specs.tenant.Limits.{Limits}
use Rattle.trace_types.specs.tenant.Tenant.{Tenant, Steps, step, step_unless, after, replies, fresh, MayLackMemory, with_row, row_reply, answer_to}
use Rattle.trace_types.specs.tenant.Rows.{History, history_of, row_of}
use Rattle.trace_types.specs.tenant.Refusal.{refusals, first_code, refusal_of}
use Rattle.trace_types.specs.world.Interleaving.{Call, calls_of, kept, tenant_after, last, due_reply, MayBeMarked}
use Rattle.trace_types.specs.world.World.{World, StepsOne, IsAfter, IsDue, tells_want, call_with}
use Rattle.trace_types.specs.declared.code.Code.{Code}
use Rattle.trace_types.specs.declared.code.Code.TheVariants.{NoMemory}
use Rattle.trace_types.specs.declared.row.Row.{Row}
use Rattle.trace_types.specs.declared.request.Request.{Request}
use Rattle.trace_types.specs.declared.request.Request.TheVariants.{Local, Spawn, Send, Recv, End, Join, Order, Past, Concurrent, Cut, Event, Stamp, Task, Message, Count}
use Rattle.trace_types.specs.declared.reply.Reply.{Reply}
use Rattle.trace_types.specs.declared.reply.Reply.TheVariants.{Refused}

pub calls_of-append : (tenant : ℕ) (xs ys : List Call) → calls_of tenant (xs ++ ys) ≡ calls_of tenant xs ++ calls_of tenant ys
calls_of-append tenant xs ys = filter-append (λ call. eqb call.tenant tenant) xs ys

pub kept-append : (xs ys : List Call) → kept (xs ++ ys) ≡ kept xs ++ kept ys
kept-append xs ys =
    ap (map (λ (call : Call). call.request)) (filter-append (λ call. not call.is_marked) xs ys)
    ∙ map-append (λ (call : Call). call.request) (filter (λ call. not call.is_marked) xs) (filter (λ call. not call.is_marked) ys)

pub after-push : (tenant : Tenant) (requests : List Request) (request : Request) → after tenant (requests ++ request ∷ []) ≡ (step (after tenant requests) request).1
after-push tenant [] request = refl
after-push tenant (first ∷ requests) request = after-push (step tenant first).1 requests request

pub last-replies_push : (none : Reply) (tenant : Tenant) (requests : List Request) (request : Request) → last none (replies tenant (requests ++ request ∷ [])) ≡ (step (after tenant requests) request).0
last-replies_push none tenant [] request = refl
last-replies_push none tenant (first ∷ requests) request = last-replies_push (step tenant first).0 (step tenant first).1 requests request

-- the tenant's own kept requests, with one more call
kept_calls_of-push : (tenant : ℕ) (calls : List Call) (call : Call) → kept (calls_of tenant (calls ++ call ∷ [])) ≡ kept (calls_of tenant calls) ++ kept (calls_of tenant (call ∷ []))
kept_calls_of-push tenant calls call = ap kept (calls_of-append tenant calls (call ∷ [])) ∙ kept-append (calls_of tenant calls) (calls_of tenant (call ∷ []))

kept-unmarked : (call : Call) → call.is_marked ≡ false → kept (call ∷ []) ≡ call.request ∷ []
kept-unmarked call unmarked = rw unmarked refl

kept-marked : (call : Call) → call.is_marked ≡ true → kept (call ∷ []) ≡ []
kept-marked call marked = rw marked refl

calls_of_itself : (call : Call) → calls_of call.tenant (call ∷ []) ≡ call ∷ []
calls_of_itself call = cond-true (eqb call.tenant call.tenant) (call ∷ []) [] (eq-eqb call.tenant call.tenant refl)

calls_of_other : (tenant : ℕ) (call : Call) → tenant ≢ call.tenant → calls_of tenant (call ∷ []) ≡ []
calls_of_other tenant call differ = cond-false (eqb call.tenant tenant) (call ∷ []) [] (ne_eqb call.tenant tenant (λ same. differ (sym same)))

calls_of_none_or_one : (tenant : ℕ) (call : Call) → (calls_of tenant (call ∷ []) ≡ call ∷ []) ⊎ (calls_of tenant (call ∷ []) ≡ [])
calls_of_none_or_one tenant call = at (eqb call.tenant tenant)
  where
    at : (same : Bool) → (cond same (call ∷ []) [] ≡ call ∷ []) ⊎ (cond same (call ∷ []) [] ≡ [])
    at true = inl refl
    at false = inr refl

kept_calls_of-push_unmarked : (calls : List Call) (call : Call) → call.is_marked ≡ false → kept (calls_of call.tenant (calls ++ call ∷ [])) ≡ kept (calls_of call.tenant calls) ++ call.request ∷ []
kept_calls_of-push_unmarked calls call unmarked =
    kept_calls_of-push call.tenant calls call ∙ ap (λ more. kept (calls_of call.tenant calls) ++ more) (ap kept (calls_of_itself call) ∙ kept-unmarked call unmarked)

pub due_reply-unmarked : (limits : Limits) (before : List Call) (call : Call) → call.is_marked ≡ false → due_reply limits before call ≡ (step (tenant_after limits before call.tenant) call.request).0
due_reply-unmarked limits before call unmarked =
    cond-false call.is_marked (Refused NoMemory) _ unmarked
    ∙ ap (λ requests. last (Refused NoMemory) (replies (fresh limits) requests)) (kept_calls_of-push_unmarked before call unmarked)
    ∙ last-replies_push (Refused NoMemory) (fresh limits) (kept (calls_of call.tenant before)) call.request

pub due_reply-marked : (limits : Limits) (before : List Call) (call : Call) → call.is_marked ≡ true → due_reply limits before call ≡ Refused NoMemory
due_reply-marked limits before call marked = cond-true call.is_marked (Refused NoMemory) _ marked

pub tenant_after-push_unmarked : (limits : Limits) (before : List Call) (call : Call) → call.is_marked ≡ false → tenant_after limits (before ++ call ∷ []) call.tenant ≡ (step (tenant_after limits before call.tenant) call.request).1
tenant_after-push_unmarked limits before call unmarked =
    ap (after (fresh limits)) (kept_calls_of-push_unmarked before call unmarked) ∙ after-push (fresh limits) (kept (calls_of call.tenant before)) call.request

-- a call that keeps nothing for the tenant leaves it as it was
tenant_after-push_nothing : (limits : Limits) (before : List Call) (call : Call) (tenant : ℕ) → kept (calls_of tenant (call ∷ [])) ≡ [] → tenant_after limits (before ++ call ∷ []) tenant ≡ tenant_after limits before tenant
tenant_after-push_nothing limits before call tenant nothing =
    ap (after (fresh limits)) (kept_calls_of-push tenant before call ∙ ap (λ more. kept (calls_of tenant before) ++ more) nothing ∙ append-nil (kept (calls_of tenant before)))

pub tenant_after-push_marked : (limits : Limits) (before : List Call) (call : Call) (tenant : ℕ) → call.is_marked ≡ true → tenant_after limits (before ++ call ∷ []) tenant ≡ tenant_after limits before tenant
tenant_after-push_marked limits before call tenant marked = tenant_after-push_nothing limits before call tenant (nothing (calls_of_none_or_one tenant call))
  where
    nothing : (calls_of tenant (call ∷ []) ≡ call ∷ []) ⊎ (calls_of tenant (call ∷ []) ≡ []) → kept (calls_of tenant (call ∷ [])) ≡ []
    nothing (inl own) = ap kept own ∙ kept-marked call marked
    nothing (inr none) = ap kept none

pub tenant_after-push_other : (limits : Limits) (before : List Call) (call : Call) (tenant : ℕ) → tenant ≢ call.tenant → tenant_after limits (before ++ call ∷ []) tenant ≡ tenant_after limits before tenant
tenant_after-push_other limits before call tenant differ = tenant_after-push_nothing limits before call tenant (ap kept (calls_of_other tenant call differ))

limits-with_row : (tenant : Tenant) (row : Option Row) → (with_row tenant row).limits ≡ tenant.limits
limits-with_row tenant None = refl
limits-with_row tenant (Some row) = refl

limits-step_unless : (refusal : Option Code) (tenant : Tenant) (request : Request) → (step_unless refusal tenant request).1.limits ≡ tenant.limits
limits-step_unless (Some code) tenant request = refl
limits-step_unless None tenant request = limits-with_row tenant (answer_to (history_of tenant.rows) request).1

pub limits-step : (tenant : Tenant) (request : Request) → (step tenant request).1.limits ≡ tenant.limits
limits-step tenant request = limits-step_unless (refusal_of tenant.limits (history_of tenant.rows) request) tenant request

pub limits-after : (tenant : Tenant) (requests : List Request) → (after tenant requests).limits ≡ tenant.limits
limits-after tenant [] = refl
limits-after tenant (request ∷ requests) = limits-after (step tenant request).1 requests ∙ limits-step tenant request

-- whether the code is another than want of memory
abbrev is_other_code : Bool × Code → Bool
is_other_code refusal = not (tells_want (Refused refusal.1))

all_other_codes : (limits : Limits) (history : History) (request : Request) → list_all is_other_code (refusals limits history request) ≡ true
all_other_codes limits history (Local task) = refl
all_other_codes limits history (Spawn task child) = refl
all_other_codes limits history (Send task message) = refl
all_other_codes limits history (Recv task message) = refl
all_other_codes limits history (End task) = refl
all_other_codes limits history (Join task child) = refl
all_other_codes limits history (Order a b) = refl
all_other_codes limits history (Past event) = refl
all_other_codes limits history (Concurrent event) = refl
all_other_codes limits history (Cut event) = refl
all_other_codes limits history (Event event) = refl
all_other_codes limits history (Stamp event) = refl
all_other_codes limits history (Task task) = refl
all_other_codes limits history (Message message) = refl
all_other_codes limits history Count = refl

tells_want-row_reply : (found : Option Row) → tells_want (row_reply found) ≡ false
tells_want-row_reply None = refl
tells_want-row_reply (Some row) = refl

tells_want-answer_to : (history : History) (request : Request) → tells_want (answer_to history request).0 ≡ false
tells_want-answer_to history (Local task) = refl
tells_want-answer_to history (Spawn task child) = refl
tells_want-answer_to history (Send task message) = refl
tells_want-answer_to history (Recv task message) = refl
tells_want-answer_to history (End task) = refl
tells_want-answer_to history (Join task child) = refl
tells_want-answer_to history (Order a b) = refl
tells_want-answer_to history (Past event) = refl
tells_want-answer_to history (Concurrent event) = refl
tells_want-answer_to history (Cut event) = refl
tells_want-answer_to history (Event event) = tells_want-row_reply (row_of history event)
tells_want-answer_to history (Stamp event) = refl
tells_want-answer_to history (Task task) = refl
tells_want-answer_to history (Message message) = refl
tells_want-answer_to history Count = refl

tells_want-step_unless : (tenant : Tenant) (request : Request) (refusals : List (Bool × Code)) → list_all is_other_code refusals ≡ true → tells_want (step_unless (first_code refusals) tenant request).0 ≡ false
tells_want-step_unless tenant request [] others = tells_want-answer_to (history_of tenant.rows) request
tells_want-step_unless tenant request (refusal ∷ refusals) others =
    at refusal.0 (tells_want-step_unless tenant request refusals (and_parts (is_other_code refusal) (list_all is_other_code refusals) others).1)
  where
    at : (holds : Bool) → tells_want (step_unless (first_code refusals) tenant request).0 ≡ false → tells_want (step_unless (cond holds (Some refusal.1) (first_code refusals)) tenant request).0 ≡ false
    at true later = not-true (tells_want (Refused refusal.1)) (and_parts (is_other_code refusal) (list_all is_other_code refusals) others).0
    at false later = later

pub tells_want-step : (tenant : Tenant) (request : Request) → tells_want (step tenant request).0 ≡ false
tells_want-step tenant request =
    tells_want-step_unless tenant request (refusals tenant.limits (history_of tenant.rows) request) (all_other_codes tenant.limits (history_of tenant.rows) request)

slice_get-set_same : {X : Type 0} (xs : List X) (i : ℕ) (y : X) → i < length xs → slice_get (slice_set xs i y) i ≡ Some y
slice_get-set_same xs i y inside =
    let longer : i < length (slice_set xs i y) = omega (arith, length-set xs i y) in
    slice_get-get_or (slice_set xs i y) i y longer ∙ ap Some (get_or-set_same xs i y y inside)

slice_get-set_other : {X : Type 0} (xs : List X) (i k : ℕ) (y : X) → k < length xs → k ≢ i → slice_get (slice_set xs i y) k ≡ slice_get xs k
slice_get-set_other xs i k y inside differ =
    let longer : k < length (slice_set xs i y) = omega (arith, length-set xs i y) in
    slice_get-get_or (slice_set xs i y) k y longer ∙ ap Some (get_or-set_other xs i k y y differ) ∙ sym (slice_get-get_or xs k y inside)

-- the tenants with the caller's one as its calls now leave it
IsAfter-set : (old : World) (calls : List Call) (call : Call) (later : Tenant) → call.tenant < length old.tenants → IsAfter old calls → later ≡ tenant_after old.limits (calls ++ call ∷ []) call.tenant → IsAfter (record old { tenants = slice_set old.tenants call.tenant later }) (calls ++ call ∷ [])
IsAfter-set old calls call later inside led own tenant below = at (cases_eq tenant call.tenant)
  where
    at : (tenant ≡ call.tenant) ⊎ (tenant ≢ call.tenant) → slice_get (slice_set old.tenants call.tenant later) tenant ≡ Some (tenant_after old.limits (calls ++ call ∷ []) tenant)
    at (inl same) = rw same (slice_get-set_same old.tenants call.tenant later inside ∙ ap Some own)
    at (inr differ) =
        let within : tenant < length old.tenants = omega (arith, length-set old.tenants call.tenant later) in
        slice_get-set_other old.tenants call.tenant tenant later within differ ∙ led tenant within
        ∙ ap Some (sym (tenant_after-push_other old.limits calls call tenant differ))

-- What steps is due.
pub IsDue-from_step : (old : World) (tenant : ℕ) (request : Request) (reply : Reply) (new : World) → StepsOne old tenant request reply new → tenant < length old.tenants → IsDue old tenant request reply new
IsDue-from_step old tenant request reply new stepped inside calls led = at stepped.steps
  where
    before : stepped.before ≡ tenant_after old.limits calls tenant
    before = same_Some stepped.before (tenant_after old.limits calls tenant) (sym stepped.was ∙ led tenant inside)

    ends : stepped.later ≡ tenant_after old.limits (calls ++ call_with tenant request reply ∷ []) tenant → IsAfter new (calls ++ call_with tenant request reply ∷ [])
    ends own = subst (λ world. IsAfter world (calls ++ call_with tenant request reply ∷ [])) (sym stepped.is) (IsAfter-set old calls (call_with tenant request reply) stepped.later inside led own)

    at : Steps stepped.before request reply stepped.later → (reply ≡ due_reply old.limits calls (call_with tenant request reply)) × MayBeMarked old.limits calls (call_with tenant request reply) × IsAfter new (calls ++ call_with tenant request reply ∷ [])
    at (inl done) =
        let is : step (tenant_after old.limits calls tenant) request ≡ (reply, stepped.later) = rw before at done in
        let unmarked : tells_want reply ≡ false = sym (ap (λ r. tells_want r.0) is) ∙ tells_want-step (tenant_after old.limits calls tenant) request in (
          ap (λ r. r.0) (sym is) ∙ sym (due_reply-unmarked old.limits calls (call_with tenant request reply) unmarked),
          λ marked. absurd (false≢true (sym unmarked ∙ marked)),
          ends (ap (λ r. r.1) (sym is) ∙ sym (tenant_after-push_unmarked old.limits calls (call_with tenant request reply) unmarked)),
        )
    at (inr lacked) =
        let marked : tells_want reply ≡ true = ap tells_want lacked.1 in (
          lacked.1 ∙ sym (due_reply-marked old.limits calls (call_with tenant request reply) marked),
          λ _. subst (λ t. MayLackMemory t request) before lacked.0,
          ends (lacked.2 ∙ before ∙ sym (tenant_after-push_marked old.limits calls (call_with tenant request reply) tenant marked)),
        )
