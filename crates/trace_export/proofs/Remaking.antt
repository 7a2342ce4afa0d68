-- What the request of a listed event does after some rows.
use Rattle.std.proofs.Common.{◌≡◌, ◌≢◌, ◌⊎◌, inl, inr, ℕ, suc, IsTrue, [], ◌∷◌, ◌++◌, length, Option, Some, None, refl, sym, ap, subst, ◌∙◌}
use Rattle.std.proofs.lemmas.List.{length-reverse, append_cancel_left}
use Rattle.trace_types.specs.tenant.Refusal.{refusal_of}
use Rattle.trace_types.specs.tenant.Rows.{History, history_of}
use Rattle.trace_types.specs.tenant.Tenant.{Tenant, Steps, answer_to, row_after, step, step_unless, with_row}
use Rattle.trace_types.specs.text.Name.{Text, is_name}
use Rattle.trace_types.specs.text.Text.{CanBeWritten}
use Rattle.trace_types.specs.declared.code.Code.{Code}
use Rattle.trace_types.specs.declared.code.Code.TheVariants.{NoMemory}
use Rattle.trace_types.specs.declared.reply.Reply.{Reply}
use Rattle.trace_types.specs.declared.reply.Reply.TheVariants.{Accepted, Refused}
use Rattle.trace_types.specs.declared.request.Request.{Request}
use Rattle.trace_types.specs.declared.row.Kind.{Kind}
use Rattle.trace_types.specs.declared.row.Kind.TheVariants.{Local, Spawn, Send, Recv, End, Join}
use Rattle.trace_types.specs.declared.row.Row.{Row}
use Rattle.trace_export.specs.Listing.{FitsKind}
use Rattle.trace_export.specs.Loading.{request_for, tenant_with}

-- the reply and the tenant after it, of what was answered
abbrev told_by : Tenant → Reply × Option Row → Reply × Tenant
told_by tenant answer = (answer.0, with_row tenant answer.1)

-- those where this row is added behind so many
abbrev pub accepted_with : Tenant → Row → ℕ → Reply × Tenant
accepted_with tenant row count = (Accepted (suc count), tenant_with tenant.limits (tenant.rows ++ row ∷ []))

abbrev refused_with : Tenant → Code → Reply × Tenant
refused_with tenant code = (Refused code, tenant)

abbrev reply_of : Reply × Tenant → Reply
reply_of done = done.0

abbrev tenant_of : Reply × Tenant → Tenant
tenant_of done = done.1

-- such a request reports something
abbrev AddsRow : History → Request → Row → Type 0
AddsRow history request row = answer_to history request ≡ (Accepted (suc (length history)), Some row)

adds_row : (history : History) (kind : Kind) (task : Text) (name : Option Text) → (row : Row) × AddsRow history (request_for kind task name) row
adds_row history Local task name = (row_after history task Local None, refl)
adds_row history End task name = (row_after history task End None, refl)
adds_row history Spawn task None = (row_after history task Local None, refl)
adds_row history Spawn task (Some child) = (row_after history task Spawn (Some child), refl)
adds_row history Send task None = (row_after history task Local None, refl)
adds_row history Send task (Some message) = (row_after history task Send (Some message), refl)
adds_row history Recv task None = (row_after history task Local None, refl)
adds_row history Recv task (Some message) = (row_after history task Recv (Some message), refl)
adds_row history Join task None = (row_after history task Local None, refl)
adds_row history Join task (Some child) = (row_after history task Join (Some child), refl)

-- with a name where the kind has one, it adds the row of these words
adds_its_row : (history : History) (kind : Kind) (task : Text) (name : Option Text) → FitsKind kind name → AddsRow history (request_for kind task name) (row_after history task kind name)
adds_its_row history Local task name fits = subst (λ named. AddsRow history (request_for Local task named) (row_after history task Local named)) (sym fits) refl
adds_its_row history End task name fits = subst (λ named. AddsRow history (request_for End task named) (row_after history task End named)) (sym fits) refl
adds_its_row history Spawn task name fits = subst (λ named. AddsRow history (request_for Spawn task named) (row_after history task Spawn named)) (sym fits.1) refl
adds_its_row history Send task name fits = subst (λ named. AddsRow history (request_for Send task named) (row_after history task Send named)) (sym fits.1) refl
adds_its_row history Recv task name fits = subst (λ named. AddsRow history (request_for Recv task named) (row_after history task Recv named)) (sym fits.1) refl
adds_its_row history Join task name fits = subst (λ named. AddsRow history (request_for Join task named) (row_after history task Join named)) (sym fits.1) refl

-- and can be written
pub can_be_written : (kind : Kind) (task : Text) (name : Option Text) → IsTrue (is_name task) → FitsKind kind name → CanBeWritten (request_for kind task name)
can_be_written Local task name named fits = named
can_be_written End task name named fits = named
can_be_written Spawn task name named fits = subst (λ other. CanBeWritten (request_for Spawn task other)) (sym fits.1) (named, fits.2)
can_be_written Send task name named fits = subst (λ other. CanBeWritten (request_for Send task other)) (sym fits.1) (named, fits.2)
can_be_written Recv task name named fits = subst (λ other. CanBeWritten (request_for Recv task other)) (sym fits.1) (named, fits.2)
can_be_written Join task name named fits = subst (λ other. CanBeWritten (request_for Join task other)) (sym fits.1) (named, fits.2)

pub two_replies : (k : ℕ) (code : Code) → Accepted k ≡ Refused code → ⊥
two_replies k code same = absurd (cc)

same_count : (a b : ℕ) → Accepted a ≡ Accepted b → a ≡ b
same_count a b same = cc

same_code : (a b : Code) → Refused a ≡ Refused b → a ≡ b
same_code a b same = cc

pub same_row : (a b : Row) → a ∷ [] ≡ b ∷ [] → a ≡ b
same_row a b same = cc

module _ (tenant : Tenant) (kind : Kind) (task : Text) (name : Option Text) where
  abbrev request : Request
  request = request_for kind task name

  abbrev refusal : Option Code
  refusal = refusal_of tenant.limits (history_of tenant.rows) request

  -- what the step is, as it is refused or not
  step_refused : (code : Code) → refusal ≡ Some code → step tenant request ≡ refused_with tenant code
  step_refused code is = ap (λ found. step_unless found tenant request) is

  step_taken : refusal ≡ None → (row : Row) → AddsRow (history_of tenant.rows) request row → step tenant request ≡ accepted_with tenant row (length tenant.rows)
  step_taken none row adds =
      ap (λ found. step_unless found tenant request) none ∙ ap (told_by tenant) adds ∙ ap (accepted_with tenant row) (length-reverse tenant.rows)

  -- An accepted report added a row.
  pub record AddsOne (count : ℕ) (new : Tenant) : Type 0 where
    pub row : Row
    pub makes : step tenant request ≡ accepted_with tenant row (length tenant.rows)
    pub leaves : new ≡ tenant_with tenant.limits (tenant.rows ++ row ∷ [])
    pub counted : count ≡ suc (length tenant.rows)

  adds_one : (count : ℕ) (new : Tenant) → step tenant request ≡ (Accepted count, new) → (found : Option Code) → refusal ≡ found → AddsOne count new
  adds_one count new steps None is =
      let adds = adds_row (history_of tenant.rows) kind task name in
      let taken = step_taken is adds.0 adds.1 in
      record {
        row = adds.0;
        makes = taken;
        leaves = ap tenant_of (sym steps ∙ taken);
        counted = same_count count (suc (length tenant.rows)) (ap reply_of (sym steps ∙ taken));
      }
  adds_one count new steps (Some code) is = absurd (two_replies count code (ap reply_of (sym steps ∙ step_refused code is)))

  pub accepted_adds : (count : ℕ) (new : Tenant) → Steps tenant request (Accepted count) new → AddsOne count new
  accepted_adds count new (inl steps) = adds_one count new steps refusal refl
  accepted_adds count new (inr lacks) = absurd (two_replies count NoMemory lacks.1)

  -- a report that was refused, and not for want of memory
  refused_by : (code : Code) (new : Tenant) → step tenant request ≡ (Refused code, new) → (found : Option Code) → refusal ≡ found → (why : Code) × (refusal ≡ Some why)
  refused_by code new steps (Some why) is = (why, is)
  refused_by code new steps None is =
      let adds = adds_row (history_of tenant.rows) kind task name in
      absurd (two_replies (suc (length tenant.rows)) code (ap reply_of (sym (step_taken is adds.0 adds.1) ∙ steps)))

  pub refused_why : (code : Code) (new : Tenant) → code ≢ NoMemory → Steps tenant request (Refused code) new → (why : Code) × (refusal ≡ Some why)
  refused_why code new other (inl steps) = refused_by code new steps refusal refl
  refused_why code new other (inr lacks) = absurd (other (same_code code NoMemory lacks.1))

  answered_by : (answer : Reply) (new : Tenant) → step tenant request ≡ (answer, new) → (found : Option Code) → refusal ≡ found
      → ((count : ℕ) × (answer ≡ Accepted count)) ⊎ ((code : Code) × (answer ≡ Refused code))
  answered_by answer new steps None is =
      let adds = adds_row (history_of tenant.rows) kind task name in
      inl (suc (length tenant.rows), ap reply_of (sym steps ∙ step_taken is adds.0 adds.1))
  answered_by answer new steps (Some code) is = inr (code, ap reply_of (sym steps ∙ step_refused code is))

  -- it is answered in one of two ways
  pub answers_report : (answer : Reply) (new : Tenant) → Steps tenant request answer new → ((count : ℕ) × (answer ≡ Accepted count)) ⊎ ((code : Code) × (answer ≡ Refused code))
  answers_report answer new (inl steps) = answered_by answer new steps refusal refl
  answers_report answer new (inr lacks) = inr (NoMemory, lacks.1)

  its_row : (row : Row) → FitsKind kind name → step tenant request ≡ accepted_with tenant row (length tenant.rows) → (found : Option Code) → refusal ≡ found → row ≡ row_after (history_of tenant.rows) task kind name
  its_row row fits makes None is =
      let due = row_after (history_of tenant.rows) task kind name in
      let taken = step_taken is due (adds_its_row (history_of tenant.rows) kind task name fits) in
      let rows : tenant.rows ++ row ∷ [] ≡ tenant.rows ++ due ∷ [] = ap (λ (done : Reply × Tenant). done.1.rows) (sym makes ∙ taken) in
      same_row row due (append_cancel_left tenant.rows (row ∷ []) (due ∷ []) rows)
  its_row row fits makes (Some code) is = absurd (two_replies (suc (length tenant.rows)) code (ap reply_of (sym makes ∙ step_refused code is)))

  -- the row that was made is the one of these words
  pub made_row : (row : Row) → FitsKind kind name → step tenant request ≡ accepted_with tenant row (length tenant.rows) → row ≡ row_after (history_of tenant.rows) task kind name
  made_row row fits makes = its_row row fits makes refusal refl
