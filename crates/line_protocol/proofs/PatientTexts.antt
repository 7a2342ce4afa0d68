-- A text that is written, and a flush, with patience of their own.
use Rattle.std.proofs.Common.{◌≡◌, ℕ, zero, suc, ◌+◌, ◌<◌, ◌≤◌, ◌⊎◌, inl, inr, IsTrue, List, [], ◌∷◌, ◌++◌, length, take, drop, Result, Ok, Err, OnOk, refl, sym, ap, ◌∙◌, append_assoc, append-nil, arith, length-append, subst}
use Rattle.std.proofs.lemmas.List.{take-append-drop}
use Rattle.std.proofs.Math.Seq.{take-append_seam, drop-append_seam}
use Rattle.std.specs.Io.KnownBytes.{Keeps}
use Rattle.trace_types.specs.text.Name.{Text}
use Rattle.line_protocol.specs.declared.stop.Stop.TheVariants as stop
use Rattle.line_protocol.specs.Sink.{Taken, TakesBoth, FlushesOnce}
use Rattle.line_protocol.specs.Writing.{OnlyWrites, WritesText, WritesFront, Writes, WritesWhole, WritesBoth, TriesToWrite, GathersText, Gathers, GoesWrong}
use Rattle.line_protocol.specs.Patience.{SinkCall, Took, WriteInterrupted, FlushInterrupted, FlushDone, CallFailed, bytes_taken_by, failed_calls, write_waits, flush_waits, last_flush_waits, waits_since_bytes, is_last_failed, HasFailed, FlushesPatiently, GivesUpFlushing, WritesPatiently}
use Rattle.line_protocol.proofs.WritingLemmas.{WritesFront-later}
use Rattle.line_protocol.proofs.GatherLemmas.{Gathers-front}
use Rattle.std.proofs.KnownBytes.{Keeps-refl, Keeps-trans}

-- behind a first text that was written
WritesText-later : {A E : Type 0} (before middle after : Taken) (first second : List ℕ) (result : Result A E) → middle.bytes ≡ before.bytes ++ first → WritesText middle after result second → WritesText before after result (first ++ second)
WritesText-later before middle after first second (Ok done) came wrote = wrote ∙ ap (λ bytes. bytes ++ second) came ∙ append_assoc before.bytes first second
WritesText-later before middle after first second (Err fault) came wrote = WritesFront-later first came wrote

-- what one write took, and the rest
pub WritesText-rest : {A E : Type 0} (before middle after : Taken) (n : ℕ) (text : List ℕ) (result : Result A E) → middle.bytes ≡ before.bytes ++ take n text → WritesText middle after result (drop n text) → WritesText before after result text
WritesText-rest before middle after n text result came wrote =
    subst (WritesText before after result) (take-append-drop n text) (WritesText-later before middle after (take n text) (drop n text) result came wrote)

-- what was held was written, and a text behind it
pub GathersText-written : {A E : Type 0} (before middle after : Taken) (held held' text : List ℕ) (result : Result A E)
    → Gathers before.bytes middle.bytes held held' [] → held' ≡ [] → WritesText middle after result text → GathersText before after held held' result text
GathersText-written before middle after held held' text (Ok done) gathered none wrote =
    let same : held ≡ gathered.written = sym (append-nil held) ∙ gathered.splits ∙ ap (λ bytes. gathered.written ++ bytes) none ∙ append-nil gathered.written in
    record {
      written = gathered.written ++ text;
      grows = wrote ∙ ap (λ bytes. bytes ++ text) gathered.grows ∙ append_assoc before.bytes gathered.written text;
      splits = ap (λ bytes. bytes ++ text) same ∙ sym (append-nil (gathered.written ++ text)) ∙ ap (λ bytes. (gathered.written ++ text) ++ bytes) (sym none);
    }
GathersText-written before middle after held held' text (Err fault) gathered none wrote =
    Gathers-front [] text gathered (subst (λ bytes. WritesFront middle.bytes after.bytes (bytes ++ text)) (sym none) wrote)

-- the last calls wait no longer than with those before them
waits_since_bytes-front : (more calls : List SinkCall) → waits_since_bytes more ≤ waits_since_bytes (more ++ calls)
waits_since_bytes-front [] calls = omega arith
waits_since_bytes-front (Took zero ∷ more) calls = waits_since_bytes-front more calls
waits_since_bytes-front (Took (suc count) ∷ more) calls = omega arith
waits_since_bytes-front (WriteInterrupted ∷ more) calls = omega (arith, waits_since_bytes-front more calls)
waits_since_bytes-front (FlushInterrupted ∷ more) calls = waits_since_bytes-front more calls
waits_since_bytes-front (FlushDone ∷ more) calls = waits_since_bytes-front more calls
waits_since_bytes-front (CallFailed ∷ more) calls = waits_since_bytes-front more calls

-- the last call is one of those that were made last
pub is_last_failed-front : (more calls : List SinkCall) → 0 < failed_calls more → IsTrue (is_last_failed (more ++ calls)) → IsTrue (is_last_failed more)
is_last_failed-front [] calls some last = absurd (omega (arith, some))
is_last_failed-front (Took count ∷ more) calls some last = last
is_last_failed-front (WriteInterrupted ∷ more) calls some last = last
is_last_failed-front (FlushInterrupted ∷ more) calls some last = last
is_last_failed-front (FlushDone ∷ more) calls some last = last
is_last_failed-front (CallFailed ∷ more) calls some last = last

-- how the writing of a text ends, by the patience that is left
gives_up : (before after : Taken) (patience' : ℕ) (only : OnlyWrites before after) → after.interruptions + patience' ≡ before.interruptions + 1048576
    → (0 < patience' → IsTrue (is_last_failed after.calls))
    → ((after.failures ≡ before.failures + 1) × (0 < patience')) ⊎ ((after.failures ≡ before.failures) × (patience' ≡ 0))
    → (HasFailed only.more × (write_waits only.more < 1048576)) ⊎ ((failed_calls only.more ≡ 0) × (write_waits only.more ≡ 1048576))
gives_up before after patience' only spent last (inl failed) =
    let one : failed_calls only.more ≡ 1 = omega (arith, only.failures, failed.0) in
    let is_last : IsTrue (is_last_failed (only.more ++ before.calls)) = subst (λ calls. IsTrue (is_last_failed calls)) only.calls (last failed.1) in
    inl ((is_last_failed-front only.more before.calls (omega (arith, one)) is_last, one), omega (arith, only.interruptions, spent, failed.1))
gives_up before after patience' only spent last (inr none) =
    inr (omega (arith, only.failures, none.0), omega (arith, only.interruptions, spent, none.1))

goes_wrong : (before after : Taken) (patience' : ℕ) → before.interruptions ≤ after.interruptions → after.interruptions + patience' ≡ before.interruptions + 1048576 → Keeps before.began after.began
    → ((after.failures ≡ before.failures + 1) × (0 < patience')) ⊎ ((after.failures ≡ before.failures) × (patience' ≡ 0)) → GoesWrong before after
goes_wrong before after patience' more spent began (inl failed) = record { more = more; fault = inl (failed.0, omega (arith, spent, failed.1)); began = began }
goes_wrong before after patience' more spent began (inr none) = record { more = more; fault = inr (none.0, omega (arith, spent, none.1)); began = began }

-- a text is written with the whole patience
pub Writes-patiently : {A E : Type 0} (before after : Taken) (patience' : ℕ) (text : Text) (result : Result A E) → WritesText before after result text → TriesToWrite before after 1048576 patience' result
    → OnOk result (0 < length text → waits_since_bytes after.calls ≡ 0) → Writes before after result text
Writes-patiently before after patience' text (Ok done) wrote tries no_wait = (
  wrote,
  record { failures = tries.spent.0; more = tries.spent.1; few = omega (arith, tries.spent.2, tries.spent.3); began = tries.only.began },
  record {
    more = tries.only.more;
    calls = tries.only.calls;
    taken = omega (arith, ap length wrote, length-append before.bytes text, tries.only.taken);
    none_failed = omega (arith, tries.only.failures, tries.spent.0);
    few = omega (arith, tries.only.interruptions, tries.spent.2, tries.spent.3);
    none_idle = λ some.
        let none : waits_since_bytes (tries.only.more ++ before.calls) ≡ 0 = subst (λ calls. waits_since_bytes calls ≡ 0) tries.only.calls (no_wait some) in
        omega (arith, waits_since_bytes-front tries.only.more before.calls, none);
    no_flush = tries.only.no_flush;
  },
)
Writes-patiently before after patience' text (Err fault) front tries no_wait = (
  front,
  goes_wrong before after patience' tries.spent.0 tries.spent.1 tries.only.began tries.spent.2,
  record {
    more = tries.only.more;
    calls = tries.only.calls;
    taken = omega (arith, ap length front.grows, length-append before.bytes front.written, ap length front.front, length-append front.written front.rest, front.some_left, tries.only.taken);
    no_flush = tries.only.no_flush;
    fault = gives_up before after patience' tries.only tries.spent.1 tries.failed tries.spent.2;
  },
)

-- the first text was written, and then the second, or not all of it
pub WritesBoth-second : {A E : Type 0} (before between after : Taken) (first second : Text) (result : Result A E) → WritesWhole before between first → Writes between after result second → WritesBoth before after result first second
WritesBoth-second before between after first second (Ok done) wrote writes = (between, wrote, writes)
WritesBoth-second before between after first second (Err fault) wrote writes = inr (between, wrote, writes)

-- what was seen between two texts that were taken at once
abbrev pub between_of : Taken → Taken → ℕ → Text → Taken
between_of before after n text = record {
  bytes = before.bytes ++ take n text;
  began = after.began;
  is_flushed = before.is_flushed;
  failures = before.failures;
  interruptions = before.interruptions;
  calls = Took (length (take n text)) ∷ before.calls;
}

-- both were taken at once
took_all : (before after : List SinkCall) (text : Text) → after ≡ Took (length text) ∷ before → WritesPatiently before after (length text)
took_all before after text calls = record {
  more = Took (length text) ∷ [];
  calls = calls;
  taken = omega arith;
  none_failed = refl;
  few = omega arith;
  none_idle = took_some_at (length text);
  no_flush = refl;
}
  where
    took_some_at : (count : ℕ) → 0 < count → waits_since_bytes (Took count ∷ []) ≡ 0
    took_some_at zero some = refl
    took_some_at (suc count) some = refl

pub WritesBoth-at_once : (before after : Taken) (n : ℕ) (text : Text) → TakesBoth before after n text → WritesWhole before (between_of before after n text) (take n text) × WritesWhole (between_of before after n text) after (drop n text)
WritesBoth-at_once before after n text both = (
  (
    refl,
    record { failures = refl; more = omega arith; few = omega arith; began = both.began },
    took_all before.calls (between_of before after n text).calls (take n text) refl,
  ),
  (
    both.taken ∙ ap (λ bytes. before.bytes ++ bytes) (sym (take-append-drop n text)) ∙ sym (append_assoc before.bytes (take n text) (drop n text)),
    record { failures = both.failures; more = omega (arith, both.interruptions); few = omega (arith, both.interruptions); began = Keeps-refl after.began },
    took_all (between_of before after n text).calls after.calls (drop n text) both.calls,
  ),
)

-- two texts that stand in one
pub WritesBoth-split : {A E : Type 0} (before after : Taken) (first second text : Text) (n : ℕ) (result : Result A E) → text ≡ first ++ second → n ≡ length first → WritesBoth before after result (take n text) (drop n text) → WritesBoth before after result first second
WritesBoth-split before after first second text n result is at writes =
    let front : take n text ≡ first = rw (is, at) (take-append_seam first second) in
    let back : drop n text ≡ second = rw (is, at) (drop-append_seam first second) in
    subst (λ one. WritesBoth before after result one second) front (subst (WritesBoth before after result (take n text)) back writes)

-- what holds on success holds under any premise
pub OnOk-any : {A E : Type 0} (P Q : Type 0) (result : Result A E) → OnOk result P → OnOk result (Q → P)
OnOk-any P Q (Ok value) holds = λ _. holds
OnOk-any P Q (Err error) holds = tt

pub OnOk-under : {A E : Type 0} (P Q R : Type 0) (result : Result A E) → P → OnOk result (P → R) → OnOk result (Q → R)
OnOk-under P Q R (Ok value) p holds = λ _. holds p
OnOk-under P Q R (Err error) p holds = tt

-- Only flushes were made, so many, and all were interrupted.
pub record OnlyFlushWaits (before after : Taken) (count : ℕ) : Type 0 where
  pub more : List SinkCall
  pub calls : after.calls ≡ more ++ before.calls
  pub taken : bytes_taken_by more ≡ 0
  pub none_failed : failed_calls more ≡ 0
  pub no_write : write_waits more ≡ 0
  pub all : flush_waits more ≡ count
  pub last : last_flush_waits more ≡ count
  pub began : Keeps before.began after.began

pub OnlyFlushWaits-none : (taken : Taken) → OnlyFlushWaits taken taken 0
OnlyFlushWaits-none taken = record { more = []; calls = refl; taken = refl; none_failed = refl; no_write = refl; all = refl; last = refl; began = Keeps-refl taken.began }

pub OnlyFlushWaits-more : (before middle after : Taken) (count : ℕ) → OnlyFlushWaits before middle count → FlushesOnce middle after (Err stop.Interrupted) → OnlyFlushWaits before after (count + 1)
OnlyFlushWaits-more before middle after count waits once = record {
  more = FlushInterrupted ∷ waits.more;
  calls = once.call ∙ ap (λ calls. FlushInterrupted ∷ calls) waits.calls;
  taken = waits.taken;
  none_failed = waits.none_failed;
  no_write = waits.no_write;
  all = omega (arith, waits.all);
  last = omega (arith, waits.last);
  began = Keeps-trans before.began middle.began after.began waits.began once.began;
}

pub FlushesPatiently-done : {before middle after : Taken} {count : ℕ} {done : Unit {0}} → OnlyFlushWaits before middle count → count < 1048576 → FlushesOnce middle after (Ok done) → FlushesPatiently before.calls after.calls
FlushesPatiently-done waits few once = record {
  more = FlushDone ∷ waits.more;
  calls = once.call ∙ ap (λ calls. FlushDone ∷ calls) waits.calls;
  taken = waits.taken;
  none_failed = waits.none_failed;
  no_write = waits.no_write;
  few = omega (arith, few, waits.all);
  done = refl;
}

pub GivesUpFlushing-failed : {before middle after : Taken} {count : ℕ} → OnlyFlushWaits before middle count → count < 1048576 → FlushesOnce middle after (Err stop.Failed) → GivesUpFlushing before.calls after.calls
GivesUpFlushing-failed waits few once = record {
  more = CallFailed ∷ waits.more;
  calls = once.call ∙ ap (λ calls. CallFailed ∷ calls) waits.calls;
  taken = waits.taken;
  no_write = waits.no_write;
  fault = inl ((refl, omega (arith, waits.none_failed)), omega (arith, few, waits.all));
}

pub GivesUpFlushing-waited : {before after : Taken} → OnlyFlushWaits before after 1048576 → GivesUpFlushing before.calls after.calls
GivesUpFlushing-waited waits = record {
  more = waits.more;
  calls = waits.calls;
  taken = waits.taken;
  no_write = waits.no_write;
  fault = inr (waits.none_failed, waits.last);
}
