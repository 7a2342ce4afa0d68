-- Lines that a writer of chunks takes and writes.
use Rattle.std.proofs.Common.{◌≡◌, ◌<◌, ◌++◌, ◌∙◌, [], Option, Some, None, Result, Ok, Err, MatchOption, append-nil, ap, arith, subst, sym}
use Rattle.std.specs.Result.{result_ok}
use Rattle.trace_types.specs.text.Name.{Text}
use Rattle.line_protocol.specs.Sink.{Taken}
use Rattle.line_protocol.specs.Patience.{waits_since_bytes}
use Rattle.line_protocol.specs.Writing.{TriesToWrite, Writes, WritesFront, WritesText}
use Rattle.line_protocol.specs.declared.reply.WriteFault.{WriteFault}
use Rattle.line_protocol.proofs.PatienceLemmas.{TriesToWrite-ok, TriesToWrite-err}
use Rattle.line_protocol.proofs.PatientTexts.{Writes-patiently}
use Rattle.stamp_reply.specs.Chunks.{GathersOn, StopsGathering}
use Rattle.stamp_reply.specs.Chunking.{GathersOn-both, StopsGathering-others}
use Rattle.stamp_reply.specs.declared.chunk_writer.ChunkWriter.{ChunkWriter}

-- a text was taken, and then another or not all of it
pub gathers-then : {W : Type 0} (took : W → Taken) (before between after : ChunkWriter W) (first others : Text) (result : Option (Unit {0})) → GathersOn took before between first
    → MatchOption result (StopsGathering took between after others) (λ _. GathersOn took between after others)
    → MatchOption result (StopsGathering took before after (first ++ others)) (λ _. GathersOn took before after (first ++ others))
gathers-then took before between after first others None taken stops = StopsGathering-others first others taken stops
gathers-then took before between after first others (Some done) taken more = GathersOn-both first others taken more

-- whether it took a text or stopped, it has the same writer
pub same_writer : {W : Type 0} (took : W → Taken) (before after : ChunkWriter W) (text : Text) (result : Option (Unit {0}))
    → MatchOption result (StopsGathering took before after text) (λ _. GathersOn took before after text) → after.writer.ghost_name ≡ before.writer.ghost_name
same_writer took before after text None stops = stops.writer
same_writer took before after text (Some done) gathers = gathers.writer

-- while nothing is held, a text was written, or not all of it
pub writes_through : {W : Type 0} (took : W → Taken) (before after : ChunkWriter W) (text : Text) (result : Result (Unit {0}) WriteFault) (told : Option (Unit {0})) → told ≡ result_ok result
    → after.writer.ghost_name ≡ before.writer.ghost_name → before.chunk ≡ [] → after.chunk ≡ [] → WritesText (took before.writer.now) (took after.writer.now) result text
    → TriesToWrite (took before.writer.now) (took after.writer.now) before.patience after.patience result
    → MatchOption told (StopsGathering took before after text) (λ _. GathersOn took before after text)
writes_through took before after text (Ok done) (Some also) is same none none' wrote tries = record {
  writer = same;
  gathered = λ some. record { written = text; grows = wrote; splits = rw (none, none') (sym (append-nil text)) };
  tries = λ some. TriesToWrite-ok tt tries;
}
writes_through took before after text (Err fault) None is same none none' front tries = record {
  writer = same;
  front = λ some. rw none front;
  tries = λ some. TriesToWrite-err tt tries;
}
writes_through took before after text (Ok done) None is same none none' wrote tries = absurd (cc is)
writes_through took before after text (Err fault) (Some also) is same none none' front tries = absurd (cc is)

-- there was patience at first
some_patience : {W : Type 0} (old : ChunkWriter W) → old.patience ≡ 1048576 → 0 < old.patience
some_patience old is = omega (arith, is)

-- a text that a new writer of chunks took and wrote is written
pub Writes-line : {W : Type 0} (took : W → Taken) (old new : ChunkWriter W) (text : Text) → old.patience ≡ 1048576 → old.chunk ≡ [] → GathersOn took old new text → new.chunk ≡ []
    → waits_since_bytes (took new.writer.now).calls ≡ 0 → Writes {A = Unit {0}} {E = WriteFault} (took old.writer.now) (took new.writer.now) (Ok tt) text
Writes-line took old new text is none gathers none' no_wait =
    let before = took old.writer.now in
    let after = took new.writer.now in
    let gathered = gathers.gathered (some_patience old is) in
    let same : text ≡ gathered.written = ap (λ held. held ++ text) (sym none) ∙ gathered.splits ∙ ap (λ held. gathered.written ++ held) none' ∙ append-nil gathered.written in
    Writes-patiently {A = Unit {0}} {E = WriteFault} before after new.patience text (Ok tt) (gathered.grows ∙ ap (λ bytes. before.bytes ++ bytes) (sym same))
    (subst (λ patience. TriesToWrite {A = Unit {0}} {E = WriteFault} before after patience new.patience (Ok tt)) is (TriesToWrite-ok tt (gathers.tries (some_patience old is)))) (λ some. no_wait)

-- of a text that it stopped at a front is written
pub Writes-stopped : {W : Type 0} (took : W → Taken) (old new : ChunkWriter W) (text : Text) (fault : WriteFault) → old.patience ≡ 1048576 → old.chunk ≡ [] → StopsGathering took old new text
    → Writes {A = Unit {0}} {E = WriteFault} (took old.writer.now) (took new.writer.now) (Err fault) text
Writes-stopped took old new text fault is none stops =
    let before = took old.writer.now in
    let after = took new.writer.now in
    Writes-patiently {A = Unit {0}} {E = WriteFault} before after new.patience text (Err fault) (subst (λ held. WritesFront before.bytes after.bytes (held ++ text)) none (stops.front (some_patience old is)))
    (subst (λ patience. TriesToWrite {A = Unit {0}} {E = WriteFault} before after patience new.patience (Err fault)) is (TriesToWrite-err fault (stops.tries (some_patience old is)))) tt
