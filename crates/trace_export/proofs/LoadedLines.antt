-- Lines that were loaded, one more, and what loading answers.
use Rattle.std.proofs.Common.{◌≡◌, ℕ, suc, ◌+◌, IsTrue, inl, inr, Option, Some, None, List, [], ◌∷◌, ◌++◌, length, refl, sym, ap, subst, ◌∙◌, arith, length-append}
use Rattle.trace_types.specs.tenant.Limits.{Limits}
use Rattle.trace_types.specs.tenant.Tenant.{Tenant, fresh}
use Rattle.trace_types.specs.text.Name.{Text}
use Rattle.trace_types.specs.declared.row.Row.{Row}
use Rattle.line_protocol.specs.Held.{Held}
use Rattle.line_protocol.specs.LineReading.{HasRead, GivesLine, Finds}
use Rattle.line_protocol.specs.Source.{Given}
use Rattle.line_protocol.specs.declared.line.Line.{Line}
use Rattle.line_protocol.proofs.LineReadingLemmas.{HasRead-start, HasRead-line}
use Rattle.trace_export.specs.Heading.{AreParts, IsHeader, IsNoHeader, lines_ahead}
use Rattle.trace_export.specs.Loading.{AreLoadedAfter, IsFaultyAfter, IsLoaded, IsLoadedNext, limits_under, tenant_with}
use Rattle.trace_export.specs.Loads.{LoadsAs, StopsLoading}
use Rattle.trace_export.specs.ReadTo.{StopsAtLine, WasReadToEnd}
use Rattle.trace_export.specs.Rebuilding.{IsTaken, IsTakenAs, IsUnbegun}
use Rattle.trace_export.specs.declared.header.Header.{Header}
use Rattle.trace_export.specs.declared.loaded.Loaded.{Loaded}
use Rattle.trace_export.specs.declared.loaded.Loaded.TheVariants.{Done, No}
use Rattle.trace_export.specs.declared.reason.Reason.{Reason}
use Rattle.trace_export.specs.declared.follower.Follower.{Follower}
use Rattle.trace_export.proofs.FoundLines.{first_found, found_line, found_to_end, no_texts, parts_count, parts_more}
use Rattle.trace_export.proofs.Judging.{end_or_line, export_bounds}
use Rattle.trace_export.proofs.Rerunning.{loaded_count}

-- Since the reader had given `start`, these lines were found, each of them loaded, and they lead to this tenant.
pub record FoundLoaded (start given : List ℕ) (held : Held) (header : Option Header) (tenant : Tenant) : Type 0 where
  pub found : List Text
  pub events : List Text
  pub read : HasRead start given held found
  pub parts : AreParts found header events
  pub limits : tenant.limits ≡ limits_under header
  pub loaded : AreLoadedAfter tenant.limits [] events tenant.rows

-- the line may be the first, and is then no header
abbrev IsNoFirst : Option Header → Tenant → Text → Type 0
IsNoFirst header tenant line = header ≡ None → tenant.rows ≡ [] → IsNoHeader line

-- there are as many rows as lines of events
found_count : {start given : List ℕ} {held : Held} {header : Option Header} {tenant : Tenant} → (so_far : FoundLoaded start given held header tenant) → length tenant.rows ≡ length so_far.events
found_count {tenant = tenant} so_far = loaded_count tenant.limits so_far.events tenant.rows so_far.loaded

no_rows : (rows : List Row) → length rows ≡ 0 → rows ≡ []
no_rows [] counted = refl
no_rows (row ∷ rows) counted = absurd (omega (arith, counted))

-- where no row is, no line of an event is
no_rows_yet : {start given : List ℕ} {held : Held} {header : Option Header} {tenant : Tenant} → (so_far : FoundLoaded start given held header tenant) → so_far.events ≡ [] → tenant.rows ≡ []
no_rows_yet {tenant = tenant} so_far empty = no_rows tenant.rows (found_count so_far ∙ ap length empty)

no_events_yet : {start given : List ℕ} {held : Held} {header : Option Header} {tenant : Tenant} → (so_far : FoundLoaded start given held header tenant) → tenant.rows ≡ [] → so_far.events ≡ []
no_events_yet so_far empty = no_texts so_far.events (sym (found_count so_far) ∙ ap length empty)

-- one more line is loaded
loaded_more : (limits : Limits) (earlier rows : List Row) (events : List Text) (line : Text) (row : Row) → AreLoadedAfter limits earlier events rows → IsLoadedNext limits rows line row
    → AreLoadedAfter limits earlier (events ++ line ∷ []) (rows ++ row ∷ [])
loaded_more limits earlier rows [] line row loaded next = (
  row,
  subst (λ (before : List Row). IsLoadedNext limits before line row) loaded next,
  ap (λ before. before ++ row ∷ []) loaded,
)
loaded_more limits earlier rows (first ∷ events) line row loaded next =
    (loaded.0, loaded.1, loaded_more limits (earlier ++ loaded.0 ∷ []) rows events line row loaded.2 next)

pub found_none_loaded : (start : List ℕ) (held : Held) → held.left ≡ [] → FoundLoaded start start held None (fresh (limits_under None))
found_none_loaded start held none = record { found = []; events = []; read = HasRead-start start held none; parts = (refl, tt); limits = refl; loaded = refl }

found_made : {start given given' : List ℕ} {held held' : Held} {header : Option Header} {tenant : Tenant} {line : Text} {row : Row} → FoundLoaded start given held header tenant
    → GivesLine given given' held.left held'.left held'.is_ended line → (IsTrue held.is_ended → (given' ≡ given) × IsTrue held'.is_ended)
    → IsNoFirst header tenant line → IsLoadedNext tenant.limits tenant.rows line row → FoundLoaded start given' held' header (tenant_with tenant.limits (tenant.rows ++ row ∷ []))
found_made {header = header} {tenant} {line} {row} before gives at_end none next = record {
  found = before.found ++ line ∷ [];
  events = before.events ++ line ∷ [];
  read = HasRead-line before.read gives at_end;
  parts = parts_more header before.found before.events line [] before.parts (λ headless empty. none headless (no_rows_yet before empty));
  limits = before.limits;
  loaded = loaded_more tenant.limits [] tenant.rows before.events line row before.loaded next;
}

-- the first line is a header
found_begun : {start given given' : List ℕ} {held held' : Held} {header : Option Header} {tenant : Tenant} {line : Text} (first : Header) → FoundLoaded start given held header tenant
    → GivesLine given given' held.left held'.left held'.is_ended line → (IsTrue held.is_ended → (given' ≡ given) × IsTrue held'.is_ended)
    → header ≡ None → tenant.rows ≡ [] → IsHeader line first → FoundLoaded start given' held' (Some first) (fresh first.limits)
found_begun {line = line} first before gives at_end headless empty is =
    let to = first_found first before.read before.parts gives at_end headless (no_events_yet before empty) is in
    record { found = before.found ++ line ∷ []; events = []; read = to.0; parts = to.1; limits = refl; loaded = refl }

-- At the end of the input all is done.
loads_done : (before after : Given) (held : Held) (header : Option Header) (tenant : Tenant) → FoundLoaded before.bytes after.bytes held header tenant → held.left ≡ [] → WasReadToEnd before after
    → LoadsAs before after (Done (length tenant.rows)) tenant.rows
loads_done before after held header tenant found none told =
    let loaded = subst (λ (limits : Limits). AreLoadedAfter limits [] found.events tenant.rows) found.limits found.loaded in
    let to = found_to_end (λ bytes. IsLoaded bytes (Done (length tenant.rows)) tenant.rows) before after held header found.found found.events found.read found.parts none told
    (λ bytes parts. record { header = header; events = found.events; parts = parts; judged = (found_count found, loaded) }) in
    record { came = to.0; grows = to.1; all = told; is_due = to.2 }

-- A line that was read to its end is faulty.
loads_no : (before after : Given) (given : List ℕ) (held held' : Held) (header : Option Header) (tenant : Tenant) (line : Text) (reason : Reason) (number : ℕ) (rows : List Row) → FoundLoaded before.bytes given held header tenant
    → GivesLine given after.bytes held.left held'.left held'.is_ended line → (IsTrue held.is_ended → (after.bytes ≡ given) × IsTrue held'.is_ended)
    → (IsTrue held'.is_ended → WasReadToEnd before after) → IsNoFirst header tenant line → IsFaultyAfter reason tenant.limits tenant.rows line → number ≡ lines_ahead header + suc (length tenant.rows)
    → LoadsAs before after (No number reason) rows
loads_no before after given held held' header tenant line reason number rows found gives at_end told none faulty counts =
    let loaded = subst (λ (limits : Limits). AreLoadedAfter limits [] found.events tenant.rows) found.limits found.loaded in
    let fails = subst (λ (limits : Limits). IsFaultyAfter reason limits tenant.rows line) found.limits faulty in
    let to = found_line (λ bytes. IsLoaded bytes (No number reason) rows) before after given held held' header found.found found.events line number found.read found.parts gives at_end told
    (λ headless empty. none headless (no_rows_yet found empty)) (omega (arith, counts, found_count found)) (λ bytes behind parts. record {
      header = header;
      events = found.events ++ line ∷ behind;
      parts = parts;
      judged = record { before = found.events; line = line; rest = behind; splits = refl; counts = omega (arith, counts, found_count found); rows = tenant.rows; loaded = loaded; faulty = fails };
    }) in
    record { came = to.0; grows = to.1; all = to.2; is_due = to.3 }

-- What was found next: since `before` the lines were loaded, and of the source and what is held it is known how they went on.
pub record LoadsOn (before middle after : Given) (held held' : Held) (follower : Follower) (found : Line) : Type 0 where
  pub so_far : FoundLoaded before.bytes middle.bytes held follower.header follower.ledger
  pub bounds : held'.bounds ≡ export_bounds
  pub finds : Finds middle.bytes after.bytes held held' found
  pub at_end : IsTrue held.is_ended → (after.bytes ≡ middle.bytes) × IsTrue held'.is_ended
  pub told : IsTrue held'.is_ended → WasReadToEnd before after

answered_as : {before middle after : Given} {held held' : Held} {old : Follower} {found : Line} (new : Follower) (loaded : Loaded) (text : Text) → LoadsOn before middle after held held' old found
    → GivesLine middle.bytes after.bytes held.left held'.left held'.is_ended text → IsTakenAs (Some loaded) old new text → LoadsAs before after loaded new.ledger.rows
answered_as new (Done count) text on gives taken = absurd taken
answered_as {before} {middle} {after} {held} {held'} {old} new (No number reason) text on gives taken =
    loads_no before after middle.bytes held held' old.header old.ledger text reason number new.ledger.rows on.so_far gives on.at_end on.told taken.1.no_header taken.1.faulty taken.0

-- what is answered in the end
pub answered_over : (before middle after : Given) (held held' : Held) (old new : Follower) (found : Line) (loaded : Loaded) → LoadsOn before middle after held held' old found
    → IsTaken found held'.line (Some loaded) old new → LoadsAs before after loaded new.ledger.rows
answered_over before middle after held held' old new found loaded on taken = elim (end_or_line held held' found on.bounds on.finds taken) [
  | inl over ↦
      let same : loaded ≡ Done (length old.ledger.rows) = cc over.1.0 in
      subst (λ (tenant : Tenant). LoadsAs before after loaded tenant.rows) (sym over.1.1)
      (subst (λ (found : Loaded). LoadsAs before after found old.ledger.rows) (sym same)
      (loads_done before after held old.header old.ledger (subst (λ bytes. FoundLoaded before.bytes bytes held old.header old.ledger) (sym over.0.0) on.so_far) over.0.1 (on.told over.0.3)))
  | inr line ↦ answered_as new loaded line.0 on line.1 line.2
]

loaded_on : {before middle after : Given} {held held' : Held} {old : Follower} {found : Line} (new : Follower) (text : Text) → LoadsOn before middle after held held' old found
    → GivesLine middle.bytes after.bytes held.left held'.left held'.is_ended text → IsTakenAs None old new text
    → FoundLoaded before.bytes after.bytes held' new.header new.ledger
loaded_on {before} {after = after} {held' = held'} new text on gives (inl begun) =
    subst (λ (header : Option Header). FoundLoaded before.bytes after.bytes held' header new.ledger) (sym begun.headed)
    (subst (λ (tenant : Tenant). FoundLoaded before.bytes after.bytes held' (Some begun.header) tenant) (sym begun.ledger)
    (found_begun begun.header on.so_far gives on.at_end begun.first.0 begun.first.1 begun.is))
loaded_on {before} {after = after} {held' = held'} {old} new text on gives (inr goes) =
    subst (λ (header : Option Header). FoundLoaded before.bytes after.bytes held' header new.ledger) (sym goes.made.more.header)
    (subst (λ (tenant : Tenant). FoundLoaded before.bytes after.bytes held' old.header tenant) (sym goes.made.more.ledger)
    (found_made on.so_far gives on.at_end goes.no_header goes.made.loaded))

-- loading goes on
pub loaded_so_far : (before middle after : Given) (held held' : Held) (old new : Follower) (found : Line) → LoadsOn before middle after held held' old found
    → IsTaken found held'.line None old new → FoundLoaded before.bytes after.bytes held' new.header new.ledger
loaded_so_far before middle after held held' old new found on taken = elim (end_or_line held held' found on.bounds on.finds taken) [
  | inl over ↦ absurd (cc over.1.0)
  | inr line ↦ loaded_on new line.0 on line.1 line.2
]

-- it begins with no line
pub begins_loading : (start : List ℕ) (held : Held) (follower : Follower) → held.left ≡ [] → IsUnbegun follower → FoundLoaded start start held follower.header follower.ledger
begins_loading start held follower none unbegun =
    subst (λ (header : Option Header). FoundLoaded start start held header follower.ledger) (sym unbegun.0)
    (subst (λ (tenant : Tenant). FoundLoaded start start held None tenant) (sym unbegun.1) (found_none_loaded start held none))

-- how many lines were found that lead to this tenant
abbrev pub lines_loaded : Option Header → Tenant → ℕ
lines_loaded header tenant = lines_ahead header + length tenant.rows

pub found_lines_loaded : {start given : List ℕ} {held : Held} {header : Option Header} {tenant : Tenant} (so_far : FoundLoaded start given held header tenant) → length so_far.found ≡ lines_loaded header tenant
found_lines_loaded {header = header} so_far = omega (arith, parts_count header so_far.found so_far.events so_far.parts, found_count so_far)

counts_as : (old new : Follower) (text : Text) → IsTakenAs None old new text → lines_loaded new.header new.ledger ≡ suc (lines_loaded old.header old.ledger)
counts_as old new text (inl begun) =
    omega (arith, ap lines_ahead begun.headed, ap (λ (tenant : Tenant). length tenant.rows) begun.ledger, ap lines_ahead begun.first.0, ap length begun.first.1)
counts_as old new text (inr goes) =
    omega (arith, ap lines_ahead goes.made.more.header, ap (λ (tenant : Tenant). length tenant.rows) goes.made.more.ledger, length-append old.ledger.rows (goes.made.row ∷ []))

-- a line that is loaded is one more
pub counts_more : (before middle after : Given) (held held' : Held) (old new : Follower) (found : Line) → LoadsOn before middle after held held' old found
    → IsTaken found held'.line None old new → lines_loaded new.header new.ledger ≡ suc (lines_loaded old.header old.ledger)
counts_more before middle after held held' old new found on taken = elim (end_or_line held held' found on.bounds on.finds taken) [
  | inl over ↦ absurd (cc over.1.0)
  | inr line ↦ counts_as old new line.0 line.2
]

module _ {R : Type 0} (seen : R → Given) (reader reader' : R) (old : Follower) where
  abbrev pub StopsNext : Type 0
  StopsNext = StopsAtLine seen (suc (lines_loaded old.header old.ledger)) reader reader'

  stops_as : (new : Follower) (loaded : Loaded) (text : Text) → StopsNext → IsTakenAs (Some loaded) old new text → StopsLoading seen reader reader' loaded
  stops_as new (Done count) text stops taken = absurd taken
  stops_as new (No number reason) text stops taken =
      let same : suc (lines_loaded old.header old.ledger) ≡ number = omega (arith, taken.0) in
      subst (λ n. StopsAtLine seen n reader reader') same stops

  -- loading that ends asks for nothing behind the line
  pub stops_over : (before middle after : Given) (held held' : Held) (new : Follower) (found : Line) (loaded : Loaded) → StopsNext → LoadsOn before middle after held held' old found
      → IsTaken found held'.line (Some loaded) old new → StopsLoading seen reader reader' loaded
  stops_over before middle after held held' new found loaded stops on taken = elim (end_or_line held held' found on.bounds on.finds taken) [
    | inl over ↦
        let same : loaded ≡ Done (length old.ledger.rows) = cc over.1.0 in
        subst (StopsLoading seen reader reader') (sym same) tt
    | inr line ↦ stops_as new loaded line.0 stops line.2
  ]
