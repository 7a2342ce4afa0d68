-- Calls of a sink, one after another.
use Rattle.std.proofs.Common.{◌≡◌, ℕ, ◌+◌, ◌<◌, ◌≤◌, ◌⊎◌, Bool, true, false, subst, List, [], ◌∷◌, ◌++◌, length, take, Result, Ok, Err, refl, sym, ap, ◌∙◌, append_assoc, arith, length-append, eqb-true, ◌==◌}
use Rattle.std.proofs.lemmas.Bool.{and_parts}
use Rattle.std.proofs.lemmas.List.{length-take-le}
use Rattle.std.specs.Prelude.{if◌then◌else◌, IfOk, nat_lt, ◌&&◌}
use Rattle.std.specs.Io.KnownBytes.{Keeps}
use Rattle.std.proofs.KnownBytes.{Keeps-refl, Keeps-trans}
use Rattle.line_protocol.specs.declared.stop.Stop.{Stop}
use Rattle.line_protocol.specs.declared.stop.Stop.TheVariants as stop
use Rattle.line_protocol.specs.Sink.{Taken, WritesOnce}
use Rattle.line_protocol.specs.Writing.{OnlyWrites, TriesToWrite}
use Rattle.line_protocol.specs.Patience.{SinkCall, Took, WriteInterrupted, FlushInterrupted, FlushDone, CallFailed, bytes_taken_by, failed_calls, write_waits, flush_calls}

-- the counts over two stretches of calls
pub bytes_taken_by-append : (more calls : List SinkCall) → bytes_taken_by (more ++ calls) ≡ bytes_taken_by calls + bytes_taken_by more
bytes_taken_by-append [] calls = omega arith
bytes_taken_by-append (Took count ∷ more) calls = omega (arith, bytes_taken_by-append more calls)
bytes_taken_by-append (WriteInterrupted ∷ more) calls = bytes_taken_by-append more calls
bytes_taken_by-append (FlushInterrupted ∷ more) calls = bytes_taken_by-append more calls
bytes_taken_by-append (FlushDone ∷ more) calls = bytes_taken_by-append more calls
bytes_taken_by-append (CallFailed ∷ more) calls = bytes_taken_by-append more calls

pub failed_calls-append : (more calls : List SinkCall) → failed_calls (more ++ calls) ≡ failed_calls calls + failed_calls more
failed_calls-append [] calls = omega arith
failed_calls-append (Took count ∷ more) calls = failed_calls-append more calls
failed_calls-append (WriteInterrupted ∷ more) calls = failed_calls-append more calls
failed_calls-append (FlushInterrupted ∷ more) calls = failed_calls-append more calls
failed_calls-append (FlushDone ∷ more) calls = failed_calls-append more calls
failed_calls-append (CallFailed ∷ more) calls = omega (arith, failed_calls-append more calls)

pub write_waits-append : (more calls : List SinkCall) → write_waits (more ++ calls) ≡ write_waits calls + write_waits more
write_waits-append [] calls = omega arith
write_waits-append (Took count ∷ more) calls = write_waits-append more calls
write_waits-append (WriteInterrupted ∷ more) calls = omega (arith, write_waits-append more calls)
write_waits-append (FlushInterrupted ∷ more) calls = write_waits-append more calls
write_waits-append (FlushDone ∷ more) calls = write_waits-append more calls
write_waits-append (CallFailed ∷ more) calls = write_waits-append more calls

pub flush_calls-append : (more calls : List SinkCall) → flush_calls (more ++ calls) ≡ flush_calls calls + flush_calls more
flush_calls-append [] calls = omega arith
flush_calls-append (Took count ∷ more) calls = flush_calls-append more calls
flush_calls-append (WriteInterrupted ∷ more) calls = flush_calls-append more calls
flush_calls-append (FlushInterrupted ∷ more) calls = omega (arith, flush_calls-append more calls)
flush_calls-append (FlushDone ∷ more) calls = omega (arith, flush_calls-append more calls)
flush_calls-append (CallFailed ∷ more) calls = flush_calls-append more calls

-- calls that flush nothing leave the count of flushes
pub flush_calls-kept : (before after more : List SinkCall) → after ≡ more ++ before → flush_calls more ≡ 0 → flush_calls after ≡ flush_calls before
flush_calls-kept before after more is none = omega (arith, ap flush_calls is, flush_calls-append more before, none)

-- no call is only writes
pub OnlyWrites-none : (taken : Taken) → OnlyWrites taken taken
OnlyWrites-none taken = record {
  more = [];
  calls = refl;
  taken = omega arith;
  failures = omega arith;
  interruptions = omega arith;
  no_flush = refl;
  began = Keeps-refl taken.began;
}

took_or_failed : (before after : Taken) (n : ℕ) (bytes : List ℕ) (none : Bool) → (none ≡ true → n ≡ 0) → n ≤ length bytes
    → after.bytes ≡ before.bytes ++ take n bytes → after.failures ≡ before.failures + (if none then 1 else 0) → after.interruptions ≡ before.interruptions + 0
    → after.calls ≡ (if none then CallFailed else Took n) ∷ before.calls → Keeps before.began after.began → OnlyWrites before after
took_or_failed before after n bytes true zero_count bound taken failures interruptions call began = record {
  more = CallFailed ∷ [];
  calls = call;
  taken = omega (arith, ap length taken, length-append before.bytes (take n bytes), length-take-le n bytes bound, zero_count refl);
  failures = failures;
  interruptions = interruptions;
  no_flush = refl;
  began = began;
}
took_or_failed before after n bytes false zero_count bound taken failures interruptions call began = record {
  more = Took n ∷ [];
  calls = call;
  taken = omega (arith, ap length taken, length-append before.bytes (take n bytes), length-take-le n bytes bound);
  failures = failures;
  interruptions = interruptions;
  no_flush = refl;
  began = began;
}

-- nor is one write
pub OnlyWrites-once : (before after : Taken) (result : Result ℕ Stop) (bytes : List ℕ) → IfOk result (λ n. n ≤ length bytes) → WritesOnce before after result bytes → OnlyWrites before after
OnlyWrites-once before after (Ok n) bytes bound once =
    took_or_failed before after n bytes ((n == 0) && nat_lt 0 (length bytes)) (λ none. eqb-true n 0 (and_parts (n == 0) (nat_lt 0 (length bytes)) none).0) bound
    once.taken once.failures once.interruptions once.call once.began
OnlyWrites-once before after (Err stop.Interrupted) bytes bound once = record {
  more = WriteInterrupted ∷ [];
  calls = once.call;
  taken = omega (arith, ap length once.taken, length-append before.bytes []);
  failures = once.failures;
  interruptions = once.interruptions;
  no_flush = refl;
  began = once.began;
}
OnlyWrites-once before after (Err stop.Failed) bytes bound once = record {
  more = CallFailed ∷ [];
  calls = once.call;
  taken = omega (arith, ap length once.taken, length-append before.bytes []);
  failures = once.failures;
  interruptions = once.interruptions;
  no_flush = refl;
  began = once.began;
}

-- some writes, and others after them
pub OnlyWrites-then : {before middle after : Taken} → OnlyWrites before middle → OnlyWrites middle after → OnlyWrites before after
OnlyWrites-then {before = before} {middle = middle} {after = after} first second = record {
  more = second.more ++ first.more;
  calls = second.calls ∙ ap (λ calls. second.more ++ calls) first.calls ∙ sym (append_assoc second.more first.more before.calls);
  taken = omega (arith, first.taken, second.taken, bytes_taken_by-append second.more first.more);
  failures = omega (arith, first.failures, second.failures, failed_calls-append second.more first.more);
  interruptions = omega (arith, first.interruptions, second.interruptions, write_waits-append second.more first.more);
  no_flush = omega (arith, first.no_flush, second.no_flush, flush_calls-append second.more first.more);
  began = Keeps-trans before.began middle.began after.began first.began second.began;
}

-- nothing was tried yet
pub TriesToWrite-none : {A E : Type 0} (done : A) (taken : Taken) (patience : ℕ) → 0 < patience → TriesToWrite {E = E} taken taken patience patience (Ok done)
TriesToWrite-none done taken patience some = record { only = OnlyWrites-none taken; spent = (refl, omega arith, refl, some); failed = tt }

-- what a success or a fault gives does not matter
pub TriesToWrite-ok : {A B E F : Type 0} {before after : Taken} {patience patience' : ℕ} {done : A} (other : B) → TriesToWrite {E = E} before after patience patience' (Ok done) → TriesToWrite {E = F} before after patience patience' (Ok other)
TriesToWrite-ok other tries = record { only = tries.only; spent = tries.spent; failed = tt }

pub TriesToWrite-err : {A B E F : Type 0} {before after : Taken} {patience patience' : ℕ} {fault : E} (other : F) → TriesToWrite {A = A} before after patience patience' (Err fault) → TriesToWrite {A = B} before after patience patience' (Err other)
TriesToWrite-err other tries = record { only = tries.only; spent = tries.spent; failed = tries.failed }

-- what was tried, and more after it
pub TriesToWrite-then : {A B E F : Type 0} {before middle after : Taken} {patience patience' patience'' : ℕ} {done : A} {result : Result B F}
    → TriesToWrite {E = E} before middle patience patience' (Ok done) → TriesToWrite middle after patience' patience'' result → TriesToWrite before after patience patience'' result
TriesToWrite-then {result = Ok value} first second = record {
  only = OnlyWrites-then first.only second.only;
  spent = (
    second.spent.0 ∙ first.spent.0,
    omega (arith, first.spent.1, second.spent.1),
    omega (arith, first.spent.2, second.spent.2),
    second.spent.3,
  );
  failed = tt;
}
TriesToWrite-then {after = after} {patience'' = patience''} {result = Err fault} first second = record {
  only = OnlyWrites-then first.only second.only;
  spent = (
    omega (arith, first.spent.1, second.spent.0),
    omega (arith, first.spent.2, second.spent.1),
    subst (λ failures. ((after.failures ≡ failures + 1) × (0 < patience'')) ⊎ ((after.failures ≡ failures) × (patience'' ≡ 0))) first.spent.0 second.spent.2,
  );
  failed = second.failed;
}
