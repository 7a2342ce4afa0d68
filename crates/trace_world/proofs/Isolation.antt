-- The replies to one tenant among many.
use Rattle.std.proofs.Common.{◌≡◌, ℕ, Bool, true, false, not, cond, eqb, List, [], ◌∷◌, ◌++◌, map, filter, refl, sym, ap, subst, ◌∙◌, append-nil}
use Rattle.std.specs.Prelude.{◌&&◌, ◌||◌, if◌then◌else◌}
use Rattle.std.proofs.lemmas.Bool.{and_parts, not-true, cond-false, eqb-true, eq-eqb, false≢true}
use Rattle.trace_types.specs.text.Name.{Text}
use Rattle.trace_types.specs.tenant.Limits.{Limits}
use Rattle.trace_types.specs.tenant.Tenant.{step, replies}
use Rattle.trace_types.specs.world.Interleaving.{Call, calls_of, kept, alone, tenant_after, last, due_reply}
use Rattle.trace_types.specs.world.Replay.{Asked, NoTenants, NoRequest, Asks, Entry, call_of, calls_by, reply_to, written, output}
use Rattle.trace_types.specs.declared.code.Code.TheVariants.{NoMemory}
use Rattle.trace_types.specs.declared.reply.Reply.{Reply}
use Rattle.trace_types.specs.declared.reply.Reply.TheVariants.{Refused}
use Rattle.trace_types.proofs.Interleaving.{calls_of-append, kept-append, due_reply-unmarked, tenant_after-push_unmarked, tenant_after-push_marked, tenant_after-push_other}
use Rattle.trace_world.specs.Isolation.{is_unmarked_of, due_replies, replies_to_tenant, names_tenant, lines_of, output_to}

-- what is kept of a first call and more
kept_calls_of-first : (tenant : ℕ) (call : Call) (calls : List Call)
    → kept (calls_of tenant (call ∷ calls)) ≡ (if is_unmarked_of tenant call then call.request ∷ kept (calls_of tenant calls) else kept (calls_of tenant calls))
kept_calls_of-first tenant call calls = at (eqb call.tenant tenant)
  where
    own : (mark : Bool) → map (λ (call : Call). call.request) (cond (not mark) (call ∷ filter (λ call. not call.is_marked) (calls_of tenant calls)) (filter (λ call. not call.is_marked) (calls_of tenant calls)))
        ≡ (if not mark then call.request ∷ kept (calls_of tenant calls) else kept (calls_of tenant calls))
    own true = refl
    own false = refl

    at : (same : Bool) → kept (cond same (call ∷ calls_of tenant calls) (calls_of tenant calls))
        ≡ (if same && not call.is_marked then call.request ∷ kept (calls_of tenant calls) else kept (calls_of tenant calls))
    at true = own call.is_marked
    at false = refl

-- a call that is another's, or marked, leaves the tenant as it was
tenant_after-push_no_unmarked : (limits : Limits) (before : List Call) (call : Call) (tenant : ℕ) → is_unmarked_of tenant call ≡ false
    → tenant_after limits (before ++ call ∷ []) tenant ≡ tenant_after limits before tenant
tenant_after-push_no_unmarked limits before call tenant not_so = at call.is_marked refl
  where
    at : (mark : Bool) → call.is_marked ≡ mark → tenant_after limits (before ++ call ∷ []) tenant ≡ tenant_after limits before tenant
    at true marked = tenant_after-push_marked limits before call tenant marked
    at false unmarked =
        tenant_after-push_other limits before call tenant (λ same. absurd (false≢true (sym not_so ∙ (rw (unmarked, eq-eqb call.tenant tenant (sym same)) refl))))

-- one call more, where what comes after it is known
due_replies-call : (limits : Limits) (tenant : ℕ) (before calls : List Call) (call : Call)
    → due_replies limits tenant (before ++ call ∷ []) calls ≡ replies (tenant_after limits (before ++ call ∷ []) tenant) (kept (calls_of tenant calls))
    → due_replies limits tenant before (call ∷ calls) ≡ replies (tenant_after limits before tenant) (kept (calls_of tenant (call ∷ calls)))
due_replies-call limits tenant before calls call later =
    at (is_unmarked_of tenant call) refl ∙ ap (replies (tenant_after limits before tenant)) (sym (kept_calls_of-first tenant call calls))
  where
    at : (own : Bool) → is_unmarked_of tenant call ≡ own
        → (if own then due_reply limits before call ∷ due_replies limits tenant (before ++ call ∷ []) calls else due_replies limits tenant (before ++ call ∷ []) calls)
        ≡ replies (tenant_after limits before tenant) (if own then call.request ∷ kept (calls_of tenant calls) else kept (calls_of tenant calls))
    at true is =
        let parts = and_parts (eqb call.tenant tenant) (not call.is_marked) is in
        let same : call.tenant ≡ tenant = eqb-true call.tenant tenant parts.0 in
        let unmarked : call.is_marked ≡ false = not-true call.is_marked parts.1 in
        let due : due_reply limits before call ≡ (step (tenant_after limits before tenant) call.request).0 =
        due_reply-unmarked limits before call unmarked ∙ ap (λ own. (step (tenant_after limits before own) call.request).0) same in
        let leaves : tenant_after limits (before ++ call ∷ []) tenant ≡ (step (tenant_after limits before tenant) call.request).1 =
        ap (tenant_after limits (before ++ call ∷ [])) (sym same) ∙ tenant_after-push_unmarked limits before call unmarked ∙ ap (λ own. (step (tenant_after limits before own) call.request).1) same in
        ap (λ reply. reply ∷ due_replies limits tenant (before ++ call ∷ []) calls) due
        ∙ ap (λ more. (step (tenant_after limits before tenant) call.request).0 ∷ more) (later ∙ ap (λ t. replies t (kept (calls_of tenant calls))) leaves)
    at false is = later ∙ ap (λ t. replies t (kept (calls_of tenant calls))) (tenant_after-push_no_unmarked limits before call tenant is)

-- after any calls, the due replies are those that the tenant's own requests go on to give
due_replies-after : (limits : Limits) (tenant : ℕ) (before calls : List Call)
    → due_replies limits tenant before calls ≡ replies (tenant_after limits before tenant) (kept (calls_of tenant calls))
due_replies-after limits tenant before [] = refl
due_replies-after limits tenant before (call ∷ calls) = due_replies-call limits tenant before calls call (due_replies-after limits tenant (before ++ call ∷ []) calls)

-- the due replies to a run are those that the tenant's own requests alone give
pub due_replies-alone : (limits : Limits) (tenant : ℕ) (calls : List Call) → due_replies limits tenant [] calls ≡ alone limits (kept (calls_of tenant calls))
due_replies-alone limits tenant calls = due_replies-after limits tenant [] calls

-- the same choice on more
chosen-same : (chosen : Bool) (reply : Reply) (first second : List Reply) → first ≡ second → (if chosen || false then reply ∷ first else first) ≡ (if chosen then reply ∷ second else second)
chosen-same true reply first second same = ap (λ more. reply ∷ more) same
chosen-same false reply first second same = same

-- the replies to the tenant's requests on lines are those due to the calls of the lines
replies_to_tenant-due : (limits : Limits) (tenant : ℕ) (before : List Call) (entries : List Entry)
    → replies_to_tenant limits tenant before entries ≡ due_replies limits tenant before (calls_by entries)
replies_to_tenant-due limits tenant before [] = refl
replies_to_tenant-due limits tenant before ((NoTenants code, mark) ∷ entries) =
    replies_to_tenant-due limits tenant (before ++ []) entries ∙ ap (λ calls. due_replies limits tenant calls (calls_by entries)) (append-nil before)
replies_to_tenant-due limits tenant before ((NoRequest other, mark) ∷ entries) =
    replies_to_tenant-due limits tenant (before ++ []) entries ∙ ap (λ calls. due_replies limits tenant calls (calls_by entries)) (append-nil before)
replies_to_tenant-due limits tenant before ((Asks other request, mark) ∷ entries) =
    let call : Call = record { tenant = other; request = request; is_marked = mark } in
    chosen-same (is_unmarked_of tenant call) (due_reply limits before call) _ _ (replies_to_tenant-due limits tenant (before ++ call ∷ []) entries)

-- the replies to the tenant's requests on lines are those that these requests alone give
pub replies_to_tenant-alone : (limits : Limits) (tenant : ℕ) (entries : List Entry) → replies_to_tenant limits tenant [] entries ≡ alone limits (kept (calls_of tenant (calls_by entries)))
replies_to_tenant-alone limits tenant entries = replies_to_tenant-due limits tenant [] entries ∙ due_replies-alone limits tenant (calls_by entries)

-- two runs that keep the same for the tenant do so with more calls
kept_calls_of-same_more : (tenant : ℕ) (first second calls : List Call) → kept (calls_of tenant first) ≡ kept (calls_of tenant second)
    → kept (calls_of tenant (first ++ calls)) ≡ kept (calls_of tenant (second ++ calls))
kept_calls_of-same_more tenant first second calls same = parts first ∙ ap (λ requests. requests ++ kept (calls_of tenant calls)) same ∙ sym (parts second)
  where
    parts : (before : List Call) → kept (calls_of tenant (before ++ calls)) ≡ kept (calls_of tenant before) ++ kept (calls_of tenant calls)
    parts before = ap kept (calls_of-append tenant before calls) ∙ kept-append (calls_of tenant before) (calls_of tenant calls)

-- a line that does not name the tenant keeps nothing for it
kept_calls_of-other_line : (tenant : ℕ) (before : List Call) (asked : Asked) (mark : Bool) → names_tenant tenant asked ≡ false
    → kept (calls_of tenant (before ++ call_of asked mark)) ≡ kept (calls_of tenant before)
kept_calls_of-other_line tenant before (NoTenants code) mark differ = ap (λ calls. kept (calls_of tenant calls)) (append-nil before)
kept_calls_of-other_line tenant before (NoRequest other) mark differ = ap (λ calls. kept (calls_of tenant calls)) (append-nil before)
kept_calls_of-other_line tenant before (Asks other request) mark differ =
    let call : Call = record { tenant = other; request = request; is_marked = mark } in
    ap kept (calls_of-append tenant before (call ∷ []) ∙ ap (λ calls. calls_of tenant before ++ calls) (cond-false (eqb other tenant) (call ∷ []) [] differ) ∙ append-nil (calls_of tenant before))

-- the reply to a line of the tenant is the same after two runs that keep the same for it
reply_to-same : (limits : Limits) (tenant : ℕ) (first second : List Call) (asked : Asked) (mark : Bool) → names_tenant tenant asked ≡ true
    → kept (calls_of tenant first) ≡ kept (calls_of tenant second) → reply_to limits first asked mark ≡ reply_to limits second asked mark
reply_to-same limits tenant first second (NoTenants code) mark own same = refl
reply_to-same limits tenant first second (NoRequest other) mark own same = refl
reply_to-same limits tenant first second (Asks other request) mark own same =
    let call : Call = record { tenant = other; request = request; is_marked = mark } in
    let is : tenant ≡ other = sym (eqb-true other tenant own) in
    let after : kept (calls_of other first) ≡ kept (calls_of other second) = subst (λ place. kept (calls_of place first) ≡ kept (calls_of place second)) is same in
    ap (λ requests. if mark then Refused NoMemory else last (Refused NoMemory) (alone limits requests)) (kept_calls_of-same_more other first second (call ∷ []) after)

-- one line more, where what is written for those after it is known
output_to-line : (names : List Text) (limits : Limits) (tenant : ℕ) (first second : List Call) (entry : Entry) (entries : List Entry) → kept (calls_of tenant first) ≡ kept (calls_of tenant second)
    → ((before : List Call) → kept (calls_of tenant (first ++ call_of entry.0 entry.1)) ≡ kept (calls_of tenant before)
    → output_to names limits tenant (first ++ call_of entry.0 entry.1) entries ≡ output names limits before (lines_of tenant entries))
    → output_to names limits tenant first (entry ∷ entries) ≡ output names limits second (lines_of tenant (entry ∷ entries))
output_to-line names limits tenant first second entry entries same later = at (names_tenant tenant entry.0) refl
  where
    at : (own : Bool) → names_tenant tenant entry.0 ≡ own
        → (if own then written names entry.0 (reply_to limits first entry.0 entry.1) ++ output_to names limits tenant (first ++ call_of entry.0 entry.1) entries
        else output_to names limits tenant (first ++ call_of entry.0 entry.1) entries)
        ≡ output names limits second (if own then entry ∷ lines_of tenant entries else lines_of tenant entries)
    at true is =
        ap (λ reply. written names entry.0 reply ++ output_to names limits tenant (first ++ call_of entry.0 entry.1) entries) (reply_to-same limits tenant first second entry.0 entry.1 is same)
        ∙ ap (λ text. written names entry.0 (reply_to limits second entry.0 entry.1) ++ text)
        (later (second ++ call_of entry.0 entry.1) (kept_calls_of-same_more tenant first second (call_of entry.0 entry.1) same))
    at false is = later second (kept_calls_of-other_line tenant first entry.0 entry.1 is ∙ same)

-- after two runs that keep the same for the tenant, what is written to it is what is written for its own lines alone
output_to-same : (names : List Text) (limits : Limits) (tenant : ℕ) (first second : List Call) (entries : List Entry) → kept (calls_of tenant first) ≡ kept (calls_of tenant second)
    → output_to names limits tenant first entries ≡ output names limits second (lines_of tenant entries)
output_to-same names limits tenant first second [] same = refl
output_to-same names limits tenant first second (entry ∷ entries) same =
    output_to-line names limits tenant first second entry entries same (λ before. output_to-same names limits tenant (first ++ call_of entry.0 entry.1) before entries)

pub output_to-alone : (names : List Text) (limits : Limits) (tenant : ℕ) (entries : List Entry) → output_to names limits tenant [] entries ≡ output names limits [] (lines_of tenant entries)
output_to-alone names limits tenant entries = output_to-same names limits tenant [] [] entries refl
