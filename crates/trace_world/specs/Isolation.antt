-- What one tenant is answered among many.
use Rattle.std.specs.Prelude.{ℕ, Bool, false, not, ◌&&◌, ◌==◌, List, [], ◌∷◌, ◌++◌, filter, if◌then◌else◌}
use Rattle.std.specs.List.{list_any}
use Rattle.trace_types.specs.text.Name.{Text}
use Rattle.trace_types.specs.tenant.Limits.{Limits}
use Rattle.trace_types.specs.world.Interleaving.{Call, due_reply}
use Rattle.trace_types.specs.world.Replay.{Asked, NoTenants, NoRequest, Asks, Entry, call_of, reply_to, written}
use Rattle.trace_types.specs.declared.reply.Reply.{Reply}

-- whether the call is the tenant's, and not marked
abbrev pub is_unmarked_of : ℕ → Call → Bool
is_unmarked_of tenant call = (call.tenant == tenant) && not call.is_marked

-- the replies that are due to the tenant's unmarked calls of these, in order, after the calls before them
abbrev pub due_replies : Limits → ℕ → List Call → List Call → List Reply
due_replies limits tenant before [] = []
due_replies limits tenant before (call ∷ calls) =
    let later = due_replies limits tenant (before ++ call ∷ []) calls in
    if is_unmarked_of tenant call then due_reply limits before call ∷ later else later

-- whether the line makes a call that is the tenant's, and not marked
abbrev pub asks_unmarked : ℕ → Entry → Bool
asks_unmarked tenant entry = list_any (is_unmarked_of tenant) (call_of entry.0 entry.1)

-- the replies to the tenant's unmarked requests among these lines, in order, after the calls before them
abbrev pub replies_to_tenant : Limits → ℕ → List Call → List Entry → List Reply
replies_to_tenant limits tenant before [] = []
replies_to_tenant limits tenant before (entry ∷ entries) =
    let later = replies_to_tenant limits tenant (before ++ call_of entry.0 entry.1) entries in
    if asks_unmarked tenant entry then reply_to limits before entry.0 entry.1 ∷ later else later

-- whether the line names the tenant, with a request or without
abbrev pub names_tenant : ℕ → Asked → Bool
names_tenant tenant (NoTenants code) = false
names_tenant tenant (NoRequest other) = other == tenant
names_tenant tenant (Asks other request) = other == tenant

-- the lines that name the tenant, in order
abbrev pub lines_of : ℕ → List Entry → List Entry
lines_of tenant entries = filter (λ entry. names_tenant tenant entry.0) entries

-- what is written for the lines that name the tenant, after the calls before them
abbrev pub output_to : List Text → Limits → ℕ → List Call → List Entry → Text
output_to names limits tenant before [] = []
output_to names limits tenant before (entry ∷ entries) =
    let later = output_to names limits tenant (before ++ call_of entry.0 entry.1) entries in
    if names_tenant tenant entry.0 then written names entry.0 (reply_to limits before entry.0 entry.1) ++ later else later
