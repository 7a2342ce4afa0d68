-- What a ledger answers to the request for a stamp.
use Rattle.std.proofs.Common.{◌≡◌, ◌⊎◌, inl, inr, ℕ, ◌<◌, ◌≤◌, true, not, [], ◌∷◌, List, length, sym, ap, ◌∙◌, arith}
use Rattle.std.proofs.lemmas.Bool.Decides.{nat_tests}
use Rattle.std.proofs.lemmas.List.{length-reverse}
use Rattle.trace_types.specs.clock.Stamps.{stamp_text_of}
use Rattle.trace_types.specs.tenant.Refusal.{first_code}
use Rattle.trace_types.specs.tenant.Rows.{history_of, is_event}
use Rattle.trace_types.specs.tenant.Tenant.{Tenant, Answers, step_unless, reply_to_view}
use Rattle.trace_types.specs.text.Name.{Text}
use Rattle.trace_types.specs.declared.code.Code.TheVariants.{NoEvent, NoMemory}
use Rattle.trace_types.specs.declared.request.Request.TheVariants.{Stamp}
use Rattle.trace_types.specs.declared.reply.Reply.{Reply}
use Rattle.trace_types.specs.declared.reply.Reply.TheVariants as reply
use Rattle.trace_types.specs.declared.row.Row.{Row}

pub is_event_within : (rows : List Row) (event : ℕ) → (0 < event) × (event ≤ length rows) → is_event (history_of rows) event ≡ true
is_event_within rows event within =
    let len = length-reverse rows in
    grind (arith, nat_tests, len, within)

stamp_reply : (tenant : Tenant) (event : ℕ) → is_event (history_of tenant.rows) event ≡ true → reply_to_view tenant (Stamp event) ≡ reply.Stamp (stamp_text_of (history_of tenant.rows) event)
stamp_reply tenant event is = ap (λ b. (step_unless (first_code ((not b, NoEvent) ∷ [])) tenant (Stamp event)).0) is

-- it is the stamp's text, or there is no memory
pub answers_stamp : (tenant : Tenant) (event : ℕ) (answer : Reply) → is_event (history_of tenant.rows) event ≡ true → Answers tenant (Stamp event) answer
    → (answer ≡ reply.Stamp (stamp_text_of (history_of tenant.rows) event)) ⊎ (answer ≡ reply.Refused NoMemory)
answers_stamp tenant event answer is (inl same) = inl (same ∙ stamp_reply tenant event is)
answers_stamp tenant event answer is (inr lacks) = inr lacks.2

abbrev text_of : Reply → Text
text_of (reply.Stamp text) = text
text_of other = []

no_refusal : (text : Text) → reply.Stamp text ≡ reply.Refused NoMemory → ⊥
no_refusal text same = absurd (cc)

-- so a text that is answered is the stamp's
pub stamp_answered : (tenant : Tenant) (event : ℕ) (answer : Reply) (text : Text) → is_event (history_of tenant.rows) event ≡ true → Answers tenant (Stamp event) answer → answer ≡ reply.Stamp text
    → text ≡ stamp_text_of (history_of tenant.rows) event
stamp_answered tenant event answer text is answers told = elim (answers_stamp tenant event answer is answers) [
  | inl same ↦ ap text_of (sym told ∙ same)
  | inr refused ↦ absurd (no_refusal text (sym told ∙ refused))
]
