-- A line that is the one that an export has of the next event is loaded, and its event is ordered as the edges say.
use Rattle.std.proofs.Common.{◌≡◌, ℕ, suc, ◌^◌, ◌<◌, ◌≤◌, codes, IsUtf8, IsTrue, true, List, [], ◌∷◌, ◌++◌, length, Option, Some, None, refl, sym, ap, subst, ◌∙◌, arith}
use Rattle.std.proofs.lemmas.List.{append_cancel_left, length-reverse, reverse-append}
use Rattle.std.proofs.lemmas.List.Elements.{All-weaker}
use Rattle.std.proofs.lemmas.Option.{same_Some}
use Rattle.json.proofs.Printed.Utf8.{IsUtf8-are_ascii}
use Rattle.serde_json.specs.Written.{compact_text}
use Rattle.trace_types.specs.clock.Clock.{tree_clock}
use Rattle.trace_types.specs.clock.Stamps.{id_of, stamp_text_of, tree_of}
use Rattle.trace_types.specs.tenant.Limits.{Limits, are_limits}
use Rattle.trace_types.specs.tenant.Refusal.{refusal_of}
use Rattle.trace_types.specs.tenant.Rows.{History, history_of, spawn_count}
use Rattle.trace_types.specs.tenant.Tenant.{Tenant, AreLegal, answer_to, is_report, step, step_unless, with_row}
use Rattle.trace_types.specs.text.Name.{Text, is_name}
use Rattle.trace_types.specs.text.Text.{name_text}
use Rattle.trace_types.specs.declared.code.Code.{Code}
use Rattle.trace_types.specs.declared.reply.Reply.{Reply}
use Rattle.trace_types.specs.declared.reply.Reply.TheVariants.{Accepted, Refused}
use Rattle.trace_types.specs.declared.request.Request.{Request}
use Rattle.trace_types.specs.declared.request.Request.TheVariants.{Local, Spawn, Send, Recv, End, Join}
use Rattle.trace_types.specs.declared.row.Kind.{Kind}
use Rattle.trace_types.specs.declared.row.Kind.TheVariants as kind
use Rattle.trace_types.specs.declared.row.Row.{Row}
use Rattle.tenant_ledger.specs.Legal.{IsLegal}
use Rattle.tenant_ledger.proofs.clock.Consequences.{maximum_of-le}
use Rattle.tenant_ledger.proofs.clock.Legality.{IsLegal_from_AreLegal}
use Rattle.tenant_ledger.proofs.size.Limits.{are_limits-le, are_within_limits}
use Rattle.trace_export.specs.DueLine.{due_line}
use Rattle.trace_export.specs.Export.{listed_row}
use Rattle.trace_export.specs.Following.{IsFollowed, line_of_next, placed_of}
use Rattle.trace_export.specs.Listing.{FitsKind, IsReadAgain, IsReadAs, Listed, listed_json}
use Rattle.trace_export.specs.Loading.{IsLoadedNext, row_request, tenant_with}
use Rattle.trace_export.proofs.LegalRows.{AreSound, legal_rows_are_sound}
use Rattle.trace_export.proofs.LoadedEvents.{text_due}
use Rattle.trace_export.proofs.PlainLines.{HasTexts, is_read, stamp_utf8}
use Rattle.trace_export.proofs.Remaking.{accepted_with, same_row, two_replies}
use Rattle.trace_export.proofs.RightRows.{good, plain, preds_before}
use Rattle.trace_export.proofs.StampTrees.{text_of}
use Rattle.trace_export.proofs.WrittenRows.{IsUtf8-name}

-- ---- the request that made a row

-- it is the row that the answer to the request adds
due_row : (tenant : Tenant) (request : Request) (row due : Row) → answer_to (history_of tenant.rows) request ≡ (Accepted (suc (length (history_of tenant.rows))), Some due)
    → step tenant request ≡ accepted_with tenant row (length tenant.rows) → (refusal : Option Code) → refusal_of tenant.limits (history_of tenant.rows) request ≡ refusal → row ≡ due
due_row tenant request row due adds makes None is =
    let taken : step tenant request ≡ (Accepted (suc (length (history_of tenant.rows))), with_row tenant (Some due)) =
    ap (λ found. step_unless found tenant request) is ∙ ap (λ (answer : Reply × Option Row). let done : Reply × Tenant = (answer.0, with_row tenant answer.1) in done) adds in
    let rows : tenant.rows ++ row ∷ [] ≡ tenant.rows ++ due ∷ [] = ap (λ (done : Reply × Tenant). done.1.rows) (sym makes ∙ taken) in
    same_row row due (append_cancel_left tenant.rows (row ∷ []) (due ∷ []) rows)
due_row tenant request row due adds makes (Some code) is =
    let refused : step tenant request ≡ (Refused code, tenant) = ap (λ found. step_unless found tenant request) is in
    absurd (two_replies (suc (length tenant.rows)) code (ap (λ (done : Reply × Tenant). done.0) (sym makes ∙ refused)))

-- so its words are those of the request
pub request_of_row : (tenant : Tenant) (request : Request) (row : Row) → is_report request ≡ true → step tenant request ≡ accepted_with tenant row (length tenant.rows) → row_request row ≡ request
request_of_row tenant (Local task) row is makes = ap row_request (due_row tenant (Local task) row _ refl makes _ refl)
request_of_row tenant (Spawn task child) row is makes = ap row_request (due_row tenant (Spawn task child) row _ refl makes _ refl)
request_of_row tenant (Send task message) row is makes = ap row_request (due_row tenant (Send task message) row _ refl makes _ refl)
request_of_row tenant (Recv task message) row is makes = ap row_request (due_row tenant (Recv task message) row _ refl makes _ refl)
request_of_row tenant (End task) row is makes = ap row_request (due_row tenant (End task) row _ refl makes _ refl)
request_of_row tenant (Join task child) row is makes = ap row_request (due_row tenant (Join task child) row _ refl makes _ refl)
request_of_row tenant other row is makes = absurd (cc is)

-- ---- the line of the next row

-- a name that a kind has
named_word : (kind : Kind) (text : Text) → FitsKind kind (Some text) → IsTrue (is_name text)
named_word kind.Local text fits = absurd (cc fits)
named_word kind.End text fits = absurd (cc fits)
named_word kind.Spawn text fits = subst (λ (name : Text). IsTrue (is_name name)) (sym (same_Some text fits.0 fits.1)) fits.2
named_word kind.Send text fits = subst (λ (name : Text). IsTrue (is_name name)) (sym (same_Some text fits.0 fits.1)) fits.2
named_word kind.Recv text fits = subst (λ (name : Text). IsTrue (is_name name)) (sym (same_Some text fits.0 fits.1)) fits.2
named_word kind.Join text fits = subst (λ (name : Text). IsTrue (is_name name)) (sym (same_Some text fits.0 fits.1)) fits.2

name_utf8 : (kind : Kind) (name : Option Text) → FitsKind kind name → IsUtf8 (name_text name)
name_utf8 kind None fits = IsUtf8-are_ascii (codes "-") refl
name_utf8 kind (Some text) fits = IsUtf8-name text (named_word kind text fits)

-- the text of the newest event's stamp
stamp_is_text : (row : Row) (earlier : History) (legal : IsLegal (row ∷ earlier)) (few : suc (length earlier) ≤ 16384) (spawns : spawn_count (row ∷ earlier) ≤ 2047)
    → IsUtf8 (stamp_text_of (row ∷ earlier) (suc (length earlier)))
stamp_is_text row earlier legal few spawns =
    let least = maximum_of-le (row ∷ earlier) legal (suc (length earlier)) in
    subst IsUtf8 (sym (text_of row earlier legal few spawns))
    (stamp_utf8 (id_of tree_clock (row ∷ earlier) row.task) (tree_of tree_clock (row ∷ earlier) (suc (length earlier))) (omega (arith, least, few)))

module _ (limits : Limits) (rows : List Row) (row : Row) (ranges : IsTrue (are_limits limits.events limits.tasks limits.messages)) (legal : AreLegal limits (rows ++ row ∷ [])) where
  abbrev earlier : History
  earlier = history_of rows

  grown : history_of (rows ++ row ∷ []) ≡ row ∷ earlier
  grown = reverse-append rows (row ∷ [])

  is_legal : IsLegal (row ∷ earlier)
  is_legal = subst IsLegal grown (IsLegal_from_AreLegal limits (rows ++ row ∷ []) legal)

  sound : AreSound (row ∷ earlier)
  sound = subst AreSound grown (legal_rows_are_sound limits (rows ++ row ∷ []) legal)

  few : suc (length earlier) ≤ 16384
  few =
      let known = are_limits-le limits.events limits.tasks limits.messages ranges in
      let within = are_within_limits limits (rows ++ row ∷ []) ranges legal in
      omega (arith, within.events, known.0, ap length grown)

  spawns : spawn_count (row ∷ earlier) ≤ 2047
  spawns =
      let known = are_limits-le limits.events limits.tasks limits.messages ranges in
      let within = are_within_limits limits (rows ++ row ∷ []) ranges legal in
      omega (arith, within.tasks, known.2, ap spawn_count grown)

  abbrev number : ℕ
  number = suc (length earlier)

  abbrev stamp : Text
  stamp = stamp_text_of (row ∷ earlier) number

  abbrev this : Listed
  this = listed_row number row stamp

  count : length earlier ≡ length rows
  count = length-reverse rows

  -- its line lists it
  due_is : line_of_next (suc (length rows)) rows row ≡ compact_text (listed_json this)
  due_is =
      ap (λ n. due_line (suc n) row (id_of tree_clock (row ∷ earlier) row.task) (tree_of tree_clock (row ∷ earlier) (suc n))) (sym count)
      ∙ ap (λ (text : Text). compact_text (listed_json (listed_row number row text))) (sym (text_of row earlier is_legal few spawns))

  texts : HasTexts this
  texts =
      let words = plain row earlier is_legal sound few spawns stamp refl in
      let known = stamp_is_text row earlier is_legal few spawns in
      record {
        small = record { event = omega (arith, words.event); preds = All-weaker (λ n. n < 10 ^ 5) (λ n. n < 2 ^ 64) (λ n small. omega (arith, small)) row.preds words.preds.1 };
        name = name_utf8 row.kind row.name sound.0.name;
        stamp = known;
        task = IsUtf8-name row.task sound.0.task;
      }

  -- so a line that is the due one is loaded
  pub due_is_loaded : (line : Text) → length line ≤ 65536 → line ≡ line_of_next (suc (length rows)) rows row
      → step (tenant_with limits rows) (row_request row) ≡ accepted_with (tenant_with limits rows) row (length rows) → IsLoadedNext limits rows line row
  due_is_loaded line short is makes =
      let preds = preds_before row earlier is_legal sound few spawns stamp refl in
      let reads : IsReadAgain this = is_read this texts in
      record {
        listed = this;
        listing = (short, (listed_json this, subst (λ (text : Text). IsReadAs text (listed_json this)) (sym (is ∙ due_is)) reads, record { written = refl; may = record { task = sound.0.task; name = sound.0.name; preds = preds.1 } }));
        due = record {
          may = (
            placed_of row earlier,
            record {
              number = (ap suc count, omega (arith, few, count));
              preds = preds.0;
              tree = (good row earlier is_legal sound few spawns stamp refl).spells;
              edges = refl;
            },
          );
          makes = makes;
          due = (refl, text_due rows row);
        };
      }

-- the report of such a line was taken
pub is_followed : (old new : Tenant) (request : Request) (row : Row) (line : Text) → IsTrue (are_limits old.limits.events old.limits.tasks old.limits.messages) → is_report request ≡ true
    → step old request ≡ accepted_with old row (length old.rows) → length line ≤ 65536 → line ≡ line_of_next (suc (length old.rows)) old.rows row
    → new ≡ tenant_with old.limits (old.rows ++ row ∷ []) → AreLegal new.limits new.rows → IsFollowed old new line
is_followed old new request row line ranges is makes short due leaves legal =
    let rows : AreLegal old.limits (old.rows ++ row ∷ []) = subst (λ (tenant : Tenant). AreLegal tenant.limits tenant.rows) leaves legal in
    let same : step old (row_request row) ≡ accepted_with old row (length old.rows) = ap (step old) (request_of_row old request row is makes) ∙ makes in
    record { row = row; loaded = due_is_loaded old.limits old.rows row ranges rows line short due same; leaves = leaves }

-- of a report that was prepared at the tenant
pub is_followed_by : (old tenant new : Tenant) (limits : Limits) (request : Request) (row : Row) (line : Text) (number : ℕ) → tenant ≡ old → old.limits ≡ limits
    → IsTrue (are_limits limits.events limits.tasks limits.messages) → is_report request ≡ true → step old request ≡ accepted_with old row (length old.rows) → length line ≤ 65536 → number ≡ suc (length old.rows)
    → line ≡ line_of_next number tenant.rows row → new ≡ with_row tenant (Some row) → AreLegal new.limits new.rows → IsFollowed old new line
is_followed_by old tenant new limits request row line number same bounds ranges is makes short counts due leaves legal =
    is_followed old new request row line (subst (λ (found : Limits). IsTrue (are_limits found.events found.tasks found.messages)) (sym bounds) ranges) is makes short
    (due ∙ ap (λ n. line_of_next n tenant.rows row) counts ∙ ap (λ (found : Tenant). line_of_next (suc (length old.rows)) found.rows row) same)
    (leaves ∙ ap (λ (found : Tenant). with_row found (Some row)) same) legal
