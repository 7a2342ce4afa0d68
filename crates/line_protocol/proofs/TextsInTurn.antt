-- Texts that are written one behind the other, each with patience of its own.
use Rattle.std.proofs.Common.{◌≡◌, ℕ, zero, suc, ◌+◌, ◌<◌, ◌≤◌, ◌⊎◌, inl, inr, IsTrue, List, [], ◌∷◌, ◌++◌, length, refl, sym, ap, ◌∙◌, append_assoc, append-nil, arith, length-append, subst}
use Rattle.std.specs.List.{concat}
use Rattle.std.specs.Prelude.{if◌then◌else◌}
use Rattle.std.proofs.lemmas.Bool.Decides.{nat_tests}
use Rattle.std.proofs.lemmas.List.Folds.{concat-append}
use Rattle.trace_types.specs.text.Name.{Text}
use Rattle.line_protocol.specs.Patience.{SinkCall, Took, WriteInterrupted, FlushInterrupted, FlushDone, CallFailed, bytes_taken_by, failed_calls, write_waits, flush_waits, flush_calls, last_flush_waits, waits_since_bytes, is_last_failed, HasFailed, is_inside, waits_between, EachPatiently, WritesPatiently, GivesUpWriting, FlushesPatiently, GivesUpFlushing}
use Rattle.line_protocol.proofs.PatienceLemmas.{bytes_taken_by-append, failed_calls-append}
use Rattle.line_protocol.specs.TextsInTurn.{BreaksOffAt}

-- Each interrupted write came when fewer bytes had been taken.
abbrev WaitsBefore : ℕ → List SinkCall → Type 0
WaitsBefore end [] = Unit {0}
WaitsBefore end (WriteInterrupted ∷ earlier) = (bytes_taken_by earlier < end) × WaitsBefore end earlier
WaitsBefore end (call ∷ earlier) = WaitsBefore end earlier

-- no call came when more bytes had been taken than in all
WaitsBefore-over : (end : ℕ) (calls : List SinkCall) → bytes_taken_by calls < end → WaitsBefore end calls
WaitsBefore-over end [] less = tt
WaitsBefore-over end (Took count ∷ calls) less = WaitsBefore-over end calls (omega (arith, less))
WaitsBefore-over end (WriteInterrupted ∷ calls) less = (less, WaitsBefore-over end calls less)
WaitsBefore-over end (FlushInterrupted ∷ calls) less = WaitsBefore-over end calls less
WaitsBefore-over end (FlushDone ∷ calls) less = WaitsBefore-over end calls less
WaitsBefore-over end (CallFailed ∷ calls) less = WaitsBefore-over end calls less

-- where bytes were taken last, each came before
WaitsBefore-all : (end : ℕ) (calls : List SinkCall) → bytes_taken_by calls ≡ end → waits_since_bytes calls ≡ 0 → WaitsBefore end calls
WaitsBefore-all end [] all none = tt
WaitsBefore-all end (Took zero ∷ calls) all none = WaitsBefore-all end calls (omega (arith, all)) none
WaitsBefore-all end (Took (suc count) ∷ calls) all none = WaitsBefore-over end calls (omega (arith, all))
WaitsBefore-all end (WriteInterrupted ∷ calls) all none = absurd (omega (arith, none))
WaitsBefore-all end (FlushInterrupted ∷ calls) all none = WaitsBefore-all end calls all none
WaitsBefore-all end (FlushDone ∷ calls) all none = WaitsBefore-all end calls all none
WaitsBefore-all end (CallFailed ∷ calls) all none = WaitsBefore-all end calls all none

-- where no write was interrupted there is none
WaitsBefore-none : (end : ℕ) (calls : List SinkCall) → write_waits calls ≡ 0 → WaitsBefore end calls
WaitsBefore-none end [] none = tt
WaitsBefore-none end (Took count ∷ calls) none = WaitsBefore-none end calls none
WaitsBefore-none end (WriteInterrupted ∷ calls) none = absurd (omega (arith, none))
WaitsBefore-none end (FlushInterrupted ∷ calls) none = WaitsBefore-none end calls none
WaitsBefore-none end (FlushDone ∷ calls) none = WaitsBefore-none end calls none
WaitsBefore-none end (CallFailed ∷ calls) none = WaitsBefore-none end calls none

WaitsBefore-more : (end end' : ℕ) (calls : List SinkCall) → end ≤ end' → WaitsBefore end calls → WaitsBefore end' calls
WaitsBefore-more end end' [] le before = tt
WaitsBefore-more end end' (Took count ∷ calls) le before = WaitsBefore-more end end' calls le before
WaitsBefore-more end end' (WriteInterrupted ∷ calls) le before = (omega (arith, le, before.0), WaitsBefore-more end end' calls le before.1)
WaitsBefore-more end end' (FlushInterrupted ∷ calls) le before = WaitsBefore-more end end' calls le before
WaitsBefore-more end end' (FlushDone ∷ calls) le before = WaitsBefore-more end end' calls le before
WaitsBefore-more end end' (CallFailed ∷ calls) le before = WaitsBefore-more end end' calls le before

WaitsBefore-append : (end len : ℕ) (more calls : List SinkCall) → bytes_taken_by calls + len ≤ end → WaitsBefore len more → WaitsBefore end calls → WaitsBefore end (more ++ calls)
WaitsBefore-append end len [] calls le own before = before
WaitsBefore-append end len (Took count ∷ more) calls le own before = WaitsBefore-append end len more calls le own before
WaitsBefore-append end len (WriteInterrupted ∷ more) calls le own before =
    (omega (arith, le, own.0, bytes_taken_by-append more calls), WaitsBefore-append end len more calls le own.1 before)
WaitsBefore-append end len (FlushInterrupted ∷ more) calls le own before = WaitsBefore-append end len more calls le own before
WaitsBefore-append end len (FlushDone ∷ more) calls le own before = WaitsBefore-append end len more calls le own before
WaitsBefore-append end len (CallFailed ∷ more) calls le own before = WaitsBefore-append end len more calls le own before

-- 1 where a place is inside
abbrev one_where_inside : ℕ → ℕ → ℕ → ℕ
one_where_inside from to place = if is_inside from to place then 1 else 0

one_inside : (from to place : ℕ) → from ≤ place → place < to → one_where_inside from to place ≡ 1
one_inside from to place at before = grind (arith, nat_tests)

none_inside_before : (from to place : ℕ) → place < from → one_where_inside from to place ≡ 0
none_inside_before from to place before = grind (arith, nat_tests)

none_inside_behind : (from to place : ℕ) → to ≤ place → one_where_inside from to place ≡ 0
none_inside_behind from to place behind = grind (arith, nat_tests)

-- what came before a place is not counted from there on
waits_between-before : (from to : ℕ) (calls : List SinkCall) → WaitsBefore from calls → waits_between from to calls ≡ 0
waits_between-before from to [] before = refl
waits_between-before from to (Took count ∷ calls) before = waits_between-before from to calls before
waits_between-before from to (WriteInterrupted ∷ calls) before =
    omega (arith, waits_between-before from to calls before.1, none_inside_before from to (bytes_taken_by calls) before.0)
waits_between-before from to (FlushInterrupted ∷ calls) before = waits_between-before from to calls before
waits_between-before from to (FlushDone ∷ calls) before = waits_between-before from to calls before
waits_between-before from to (CallFailed ∷ calls) before = waits_between-before from to calls before

-- what comes behind a place is not counted up to there
waits_between-behind : (from to : ℕ) (more calls : List SinkCall) → to ≤ bytes_taken_by calls → waits_between from to (more ++ calls) ≡ waits_between from to calls
waits_between-behind from to [] calls behind = refl
waits_between-behind from to (Took count ∷ more) calls behind = waits_between-behind from to more calls behind
waits_between-behind from to (WriteInterrupted ∷ more) calls behind =
    let at : to ≤ bytes_taken_by (more ++ calls) = omega (arith, behind, bytes_taken_by-append more calls) in
    omega (arith, waits_between-behind from to more calls behind, none_inside_behind from to (bytes_taken_by (more ++ calls)) at)
waits_between-behind from to (FlushInterrupted ∷ more) calls behind = waits_between-behind from to more calls behind
waits_between-behind from to (FlushDone ∷ more) calls behind = waits_between-behind from to more calls behind
waits_between-behind from to (CallFailed ∷ more) calls behind = waits_between-behind from to more calls behind

-- what comes in between is counted
waits_between-inside : (from to len : ℕ) (more calls : List SinkCall) → from ≤ bytes_taken_by calls → bytes_taken_by calls + len ≤ to → WaitsBefore len more
    → waits_between from to (more ++ calls) ≡ waits_between from to calls + write_waits more
waits_between-inside from to len [] calls at fits own = omega arith
waits_between-inside from to len (Took count ∷ more) calls at fits own = waits_between-inside from to len more calls at fits own
waits_between-inside from to len (WriteInterrupted ∷ more) calls at fits own =
    let first : from ≤ bytes_taken_by (more ++ calls) = omega (arith, at, bytes_taken_by-append more calls) in
    let last : bytes_taken_by (more ++ calls) < to = omega (arith, own.0, fits, bytes_taken_by-append more calls) in
    omega (arith, waits_between-inside from to len more calls at fits own.1, one_inside from to (bytes_taken_by (more ++ calls)) first last)
waits_between-inside from to len (FlushInterrupted ∷ more) calls at fits own = waits_between-inside from to len more calls at fits own
waits_between-inside from to len (FlushDone ∷ more) calls at fits own = waits_between-inside from to len more calls at fits own
waits_between-inside from to len (CallFailed ∷ more) calls at fits own = waits_between-inside from to len more calls at fits own

-- texts that were written stay written patiently
EachPatiently-behind : (from : ℕ) (texts : List Text) (more calls : List SinkCall) → from + length (concat texts) ≤ bytes_taken_by calls → EachPatiently from texts calls → EachPatiently from texts (more ++ calls)
EachPatiently-behind from [] more calls behind each = tt
EachPatiently-behind from (text ∷ texts) more calls behind each =
    let len = length-append text (concat texts) in (
      omega (arith, each.0, waits_between-behind from (from + length text) more calls (omega (arith, behind, len))),
      EachPatiently-behind (from + length text) texts more calls (omega (arith, behind, len)) each.1,
    )

EachPatiently-push : (from : ℕ) (texts : List Text) (text : Text) (calls : List SinkCall) → EachPatiently from texts calls
    → waits_between (from + length (concat texts)) (from + length (concat texts) + length text) calls < 1048576 → EachPatiently from (texts ++ text ∷ []) calls
EachPatiently-push from [] text calls each few =
    let at : from + length (concat []) ≡ from = omega arith in
    (subst (λ place. waits_between place (place + length text) calls < 1048576) at few, tt)
EachPatiently-push from (first ∷ texts) text calls each few =
    let at : from + length (concat (first ∷ texts)) ≡ from + length first + length (concat texts) = omega (arith, length-append first (concat texts)) in
    (each.0, EachPatiently-push (from + length first) texts text calls each.1 (subst (λ place. waits_between place (place + length text) calls < 1048576) at few))

-- the texts so far, and one more
length-concat-push : (texts : List Text) (text : Text) → length (concat (texts ++ text ∷ [])) ≡ length (concat texts) + length text
length-concat-push texts text =
    ap length (concat-append texts (text ∷ []) ∙ ap (λ bytes. concat texts ++ bytes) (append-nil text)) ∙ length-append (concat texts) text

last_flush_waits-le : (calls : List SinkCall) → last_flush_waits calls ≤ flush_calls calls
last_flush_waits-le [] = omega arith
last_flush_waits-le (Took count ∷ calls) = omega arith
last_flush_waits-le (WriteInterrupted ∷ calls) = omega arith
last_flush_waits-le (FlushInterrupted ∷ calls) = omega (arith, last_flush_waits-le calls)
last_flush_waits-le (FlushDone ∷ calls) = omega arith
last_flush_waits-le (CallFailed ∷ calls) = omega arith

last_flush_waits-append : (more calls : List SinkCall) → last_flush_waits calls ≡ 0 → last_flush_waits (more ++ calls) ≡ last_flush_waits more
last_flush_waits-append [] calls none = none
last_flush_waits-append (Took count ∷ more) calls none = refl
last_flush_waits-append (WriteInterrupted ∷ more) calls none = refl
last_flush_waits-append (FlushInterrupted ∷ more) calls none = omega (arith, last_flush_waits-append more calls none)
last_flush_waits-append (FlushDone ∷ more) calls none = refl
last_flush_waits-append (CallFailed ∷ more) calls none = refl

is_last_failed-append : (more calls : List SinkCall) → IsTrue (is_last_failed more) → IsTrue (is_last_failed (more ++ calls))
is_last_failed-append [] calls last = absurd (cc)
is_last_failed-append (Took count ∷ more) calls last = last
is_last_failed-append (WriteInterrupted ∷ more) calls last = last
is_last_failed-append (FlushInterrupted ∷ more) calls last = last
is_last_failed-append (FlushDone ∷ more) calls last = last
is_last_failed-append (CallFailed ∷ more) calls last = last

-- These texts were written, each patiently, and all is ready for the next.
pub record WroteTexts (before after : List SinkCall) (texts : List Text) : Type 0 where
  pub more : List SinkCall
  pub calls : after ≡ more ++ before
  pub each : EachPatiently 0 texts more
  pub taken : bytes_taken_by more ≡ length (concat texts)
  pub none_failed : failed_calls more ≡ 0
  pub before_end : WaitsBefore (length (concat texts)) more
  pub no_wait : last_flush_waits more ≡ 0

pub WroteTexts-none : (calls : List SinkCall) → WroteTexts calls calls []
WroteTexts-none calls = record { more = []; calls = refl; each = tt; taken = refl; none_failed = refl; before_end = tt; no_wait = refl }

-- one text more
pub WroteTexts-text : {before middle after : List SinkCall} (texts : List Text) (text : Text) → 0 < length text → WroteTexts before middle texts → WritesPatiently middle after (length text) → WroteTexts before after (texts ++ text ∷ [])
WroteTexts-text {before = before} texts text some wrote writes =
    let own : WaitsBefore (length text) writes.more = WaitsBefore-all (length text) writes.more writes.taken (writes.none_idle some) in
    let at = length (concat texts) in
    let len = length-concat-push texts text in
    let count = waits_between-inside at (at + length text) (length text) writes.more wrote.more (omega (arith, wrote.taken)) (omega (arith, wrote.taken)) own in
    let none = waits_between-before at (at + length text) wrote.more wrote.before_end in
    let zero_at : 0 + at ≡ at = omega arith in
    record {
      more = writes.more ++ wrote.more;
      calls = writes.calls ∙ ap (λ calls. writes.more ++ calls) wrote.calls ∙ sym (append_assoc writes.more wrote.more before);
      each = EachPatiently-push 0 texts text (writes.more ++ wrote.more)
          (EachPatiently-behind 0 texts writes.more wrote.more (omega (arith, wrote.taken)) wrote.each)
          (subst (λ place. waits_between place (place + length text) (writes.more ++ wrote.more) < 1048576) (sym zero_at) (omega (arith, count, none, writes.few)));
      taken = omega (arith, bytes_taken_by-append writes.more wrote.more, writes.taken, wrote.taken, len);
      none_failed = omega (arith, failed_calls-append writes.more wrote.more, writes.none_failed, wrote.none_failed);
      before_end = WaitsBefore-append _ (length text) writes.more wrote.more (omega (arith, wrote.taken, len)) own (WaitsBefore-more at _ wrote.more (omega (arith, len)) wrote.before_end);
      no_wait = omega (arith, last_flush_waits-append writes.more wrote.more wrote.no_wait, last_flush_waits-le writes.more, writes.no_flush);
    }

-- a flush between texts
pub WroteTexts-flush : {before middle after : List SinkCall} {texts : List Text} → WroteTexts before middle texts → FlushesPatiently middle after → WroteTexts before after texts
WroteTexts-flush {before = before} {texts = texts} wrote flushes = record {
  more = flushes.more ++ wrote.more;
  calls = flushes.calls ∙ ap (λ calls. flushes.more ++ calls) wrote.calls ∙ sym (append_assoc flushes.more wrote.more before);
  each = EachPatiently-behind 0 texts flushes.more wrote.more (omega (arith, wrote.taken)) wrote.each;
  taken = omega (arith, bytes_taken_by-append flushes.more wrote.more, flushes.taken, wrote.taken);
  none_failed = omega (arith, failed_calls-append flushes.more wrote.more, flushes.none_failed, wrote.none_failed);
  before_end = WaitsBefore-append _ 0 flushes.more wrote.more (omega (arith, wrote.taken)) (WaitsBefore-none 0 flushes.more flushes.no_write) wrote.before_end;
  no_wait = omega (arith, last_flush_waits-append flushes.more wrote.more wrote.no_wait, flushes.done);
}

-- These texts were written, each patiently, and at the next of those that were left a write fault came.
pub record BreaksTexts (before after : List SinkCall) (texts left : List Text) : Type 0 where
  pub more : List SinkCall
  pub calls : after ≡ more ++ before
  pub each : EachPatiently 0 texts more
  pub broken : BreaksOffAt (length (concat texts)) left more

failed_after : (more calls : List SinkCall) → failed_calls calls ≡ 0 → HasFailed more → HasFailed (more ++ calls)
failed_after more calls none failed = (is_last_failed-append more calls failed.0, omega (arith, failed_calls-append more calls, failed.1, none))

breaks_writing : {before middle : List SinkCall} (texts : List Text) (text : Text) (left : List Text) (more : List SinkCall) (wrote : WroteTexts before middle texts) → bytes_taken_by more < length text
    → (HasFailed more × (write_waits more < 1048576)) ⊎ ((failed_calls more ≡ 0) × (write_waits more ≡ 1048576))
    → BreaksOffAt (length (concat texts)) (text ∷ left) (more ++ wrote.more)
breaks_writing texts text left more wrote less (inl failed) = inl (failed_after more wrote.more wrote.none_failed failed.0)
breaks_writing texts text left more wrote less (inr waited) =
    let at = length (concat texts) in
    let own : WaitsBefore (length text) more = WaitsBefore-over (length text) more less in
    let count = waits_between-inside at (at + length text) (length text) more wrote.more (omega (arith, wrote.taken)) (omega (arith, wrote.taken)) own in
    let none = waits_between-before at (at + length text) wrote.more wrote.before_end in
    inr (omega (arith, failed_calls-append more wrote.more, waited.0, wrote.none_failed), inl (omega (arith, count, none, waited.1)))

pub BreaksTexts-text : {before middle after : List SinkCall} (texts : List Text) (text : Text) (left : List Text) → WroteTexts before middle texts → GivesUpWriting middle after (length text) → BreaksTexts before after texts (text ∷ left)
BreaksTexts-text {before = before} texts text left wrote stops = record {
  more = stops.more ++ wrote.more;
  calls = stops.calls ∙ ap (λ calls. stops.more ++ calls) wrote.calls ∙ sym (append_assoc stops.more wrote.more before);
  each = EachPatiently-behind 0 texts stops.more wrote.more (omega (arith, wrote.taken)) wrote.each;
  broken = breaks_writing texts text left stops.more wrote stops.taken stops.fault;
}

breaks_flushing : {before middle : List SinkCall} (texts : List Text) (more : List SinkCall) (wrote : WroteTexts before middle texts)
    → (HasFailed more × (flush_waits more < 1048576)) ⊎ ((failed_calls more ≡ 0) × (last_flush_waits more ≡ 1048576))
    → BreaksOffAt (length (concat texts)) [] (more ++ wrote.more)
breaks_flushing texts more wrote (inl failed) = inl (failed_after more wrote.more wrote.none_failed failed.0)
breaks_flushing texts more wrote (inr waited) =
    inr (omega (arith, failed_calls-append more wrote.more, waited.0, wrote.none_failed), inr (last_flush_waits-append more wrote.more wrote.no_wait ∙ waited.1))

pub BreaksTexts-flush : {before middle after : List SinkCall} (texts : List Text) → WroteTexts before middle texts → GivesUpFlushing middle after → BreaksTexts before after texts []
BreaksTexts-flush {before = before} texts wrote stops = record {
  more = stops.more ++ wrote.more;
  calls = stops.calls ∙ ap (λ calls. stops.more ++ calls) wrote.calls ∙ sym (append_assoc stops.more wrote.more before);
  each = EachPatiently-behind 0 texts stops.more wrote.more (omega (arith, wrote.taken)) wrote.each;
  broken = breaks_flushing texts stops.more wrote stops.fault;
}
