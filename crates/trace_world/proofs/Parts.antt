-- Replays that a fault cuts short.
use Rattle.std.proofs.Common.{◌≡◌, ◌≢◌, ℕ, zero, suc, ◌-◌, ◌≤◌, Bool, true, false, IsTrue, List, [], ◌∷◌, ◌++◌, length, take, refl, sym, ap, ◌∙◌, subst, append_assoc, arith, codes, Option, Some, None, IfSome, Result, Ok, Err, IsErrAnd, inl, inr}
use Rattle.std.proofs.lemmas.List.{append-nil, length-append}
use Rattle.std.proofs.Math.Seq.{take-append_seam}
use Rattle.std.specs.Io.KnownBytes.{Keeps}
use Rattle.std.proofs.KnownBytes.{Keeps-refl}
use Rattle.trace_types.specs.text.Name.{Text}
use Rattle.trace_types.specs.tenant.Limits.{Limits}
use Rattle.trace_types.specs.text.Lines.{is_too_long, lines}
use Rattle.trace_types.specs.text.Text.{reply_text}
use Rattle.trace_types.specs.world.Interleaving.{Call}
use Rattle.trace_types.specs.world.Replay.{asked, call_of, entries, output}
use Rattle.trace_types.specs.world.World.{World}
use Rattle.trace_types.specs.declared.reply.Reply.{Reply}
use Rattle.line_protocol.specs.Held.{Held, fresh_held, request_bounds}
use Rattle.line_protocol.specs.Ends.{end_count}
use Rattle.line_protocol.specs.Source.{Given, one_if}
use Rattle.line_protocol.specs.Sink.{Taken}
use Rattle.line_protocol.specs.LineReading.{HasRead, GivesLine, Finds, FindsNone, Reads}
use Rattle.line_protocol.specs.declared.line.Line.{Line}
use Rattle.line_protocol.specs.declared.line.Line.TheVariants.{Whole, TooLong, End}
use Rattle.trace_world.specs.Answered.{IsFound}
use Rattle.std.specs.List.{concat}
use Rattle.line_protocol.specs.Writing.{WritesFront, WritesBoth}
use Rattle.line_protocol.specs.Patience.{SinkCall, FlushesPatiently, GivesUpFlushing}
use Rattle.line_protocol.specs.declared.line_reader.ReadFault.{ReadFault}
use Rattle.line_protocol.specs.declared.line_reader.ReadFault.TheVariants as read
use Rattle.line_protocol.specs.StreamFaults.{stream_fault_of}
use Rattle.trace_world.specs.Texts.{AreTexts, WritesInPart}
use Rattle.line_protocol.proofs.TextsInTurn.{WroteTexts, WroteTexts-flush, BreaksTexts-text, BreaksTexts-flush}
use Rattle.line_protocol.proofs.LineReadingLemmas.{HasRead-line, HasRead-end, HasRead-none, has_told_end}
use Rattle.trace_world.specs.declared.counts.Counts.{Counts}
use Rattle.line_protocol.specs.declared.stream_fault.StreamFault.{StreamFault}
use Rattle.line_protocol.specs.declared.stream_fault.StreamFault.TheVariants.{Read, Write, TooLong, Memory}
use Rattle.trace_world.specs.Counted.{counted_with}
use Rattle.trace_world.specs.Replayed.{DoesLine, AreFirstLines, HandsOn, ReplaysInPart, Replays}
use Rattle.trace_world.proofs.ReplayedLines.{HasReplayed, no_counts, LeadsTo-none, LeadsTo-line, AreTexts-line, WroteTexts-to, joined_push}

-- a line was found, and this is its answer
pub record Answered (given given' : List ℕ) (held held' : Held) (old : World) (to : Text) (reply : Reply) (new : World) : Type 0 where
  pub line : Text
  pub gives : GivesLine given given' held.left held'.left held'.is_ended line
  pub answers : DoesLine old line to reply new

pub answered_too_long : (given given' : List ℕ) (held held' : Held) (old new : World) (to : Text) (reply : Reply) → held'.bounds ≡ request_bounds → Finds given given' held held' TooLong
    → ((text : Text) → is_too_long text ≡ true → DoesLine old text to reply new) → Answered given given' held held' old to reply new
answered_too_long given given' held held' old new to reply within (line, gives, long) does = record {
  line = line;
  gives = gives;
  answers = does line (rw within at long);
}

pub answered_whole : (given given' : List ℕ) (held held' : Held) (old new : World) (to : Text) (reply : Reply) → held'.bounds ≡ request_bounds → Finds given given' held held' Whole
    → (is_too_long held'.line ≡ false → DoesLine old held'.line to reply new) → Answered given given' held held' old to reply new
answered_whole given given' held held' old new to reply within (gives, short) does = record {
  line = held'.line;
  gives = gives;
  answers = does (rw within at short);
}

-- the lines that were found are first, however the input goes on
unfoldable pub AreFirstLines-from : {start given given' : List ℕ} {held : Held} {found : List Text} (has_ended : Bool) (gave : List ℕ) → HasRead start given held found
    → given' ≡ given ++ gave → (IsTrue held.is_ended → (gave ≡ []) × IsTrue has_ended) → AreFirstLines start given' has_ended found
AreFirstLines-from {start = start} {held = held} {found = found} has_ended gave read grows at_end = record {
  came = read.came ++ gave;
  left = held.left ++ gave;
  reads = grows ∙ ap (λ bytes. bytes ++ gave) read.grows ∙ append_assoc start read.came gave;
  first = λ rest none.
      ap lines (append_assoc read.came gave rest)
      ∙ read.so_far (gave ++ rest) (λ ended. ap (λ bytes. bytes ++ rest) (at_end ended).0 ∙ none (at_end ended).1)
      ∙ ap (λ bytes. found ++ lines bytes) (sym (append_assoc held.left gave rest));
}

take-nil : (n : ℕ) → take {A = Bool} n [] ≡ []
take-nil zero = refl
take-nil (suc n) = refl

-- a longer rest makes a longer text
append-le : (front a b : List ℕ) → length a ≤ length b → length (front ++ a) ≤ length (front ++ b)
append-le front a b le = omega (arith, length-append front a, length-append front b)

-- all but the last
take-push : {A : Type 0} (n : ℕ) (xs : List A) (x : A) → n ≡ length xs → take n (xs ++ x ∷ []) ≡ xs
take-push n xs x is = ap (λ k. take k (xs ++ x ∷ [])) is ∙ take-append_seam xs (x ∷ [])

-- fewer lines have no longer output
output-take-le : (names : List Text) (limits : Limits) (before : List Call) (found : List Text) (marks : List Bool) (n : ℕ)
    → length (output names limits before (entries names (take n found) (take n marks))) ≤ length (output names limits before (entries names found marks))
output-take-le names limits before found marks zero = omega arith
output-take-le names limits before [] marks (suc n) = omega arith
output-take-le names limits before (line ∷ found) [] (suc n) =
    append-le _ _ _ (rw (take-nil n) at (output-take-le names limits (before ++ call_of (asked names line) false) found [] n))
output-take-le names limits before (line ∷ found) (mark ∷ marks) (suc n) =
    append-le _ _ _ (output-take-le names limits (before ++ call_of (asked names line) mark) found marks n)

-- all that was found was written
pub in_part_whole : (before after : Given) (taken taken' : Taken) {given : List ℕ} {calls' : List SinkCall} {old new : World} {held : Held} {counts : Counts} (gave : List ℕ)
    → (so_far : HasReplayed before.bytes given taken.bytes taken'.bytes taken.calls calls' old held counts new)
    → after.bytes ≡ given ++ gave → (IsTrue held.is_ended → (gave ≡ []) × IsTrue after.has_ended) → Keeps before.whole after.whole → (fault : StreamFault)
    → (fault ≢ Write → length so_far.found ≡ end_count (so_far.read.came ++ gave))
    → WritesInPart fault old so_far.found so_far.marks so_far.text taken.calls taken'.calls → Keeps taken.began taken'.began → ReplaysInPart fault before after taken taken' old new
unfolding AreFirstLines-from
in_part_whole before after taken taken' {old = old} {counts = counts} gave so_far grows at_end kept fault all_found in_part began = record {
  found = so_far.found;
  marks = so_far.marks;
  text = so_far.text;
  counts = counts;
  written = so_far.text;
  unwritten = [];
  first = AreFirstLines-from after.has_ended gave so_far.read grows at_end;
  kept = kept;
  none_lost = all_found;
  writes = so_far.writes;
  began = began;
  front = sym (append-nil so_far.text);
  replied = λ not_write. refl;
  leads = so_far.leads;
  whole = λ calls after.
      let less = output-take-le old.names old.limits calls so_far.found so_far.marks (length so_far.found - 1) in
      let all = ap length (so_far.leads.text_is calls after) in
      omega (arith, less, all);
  texts = in_part;
}

-- all texts were written
all_texts : {start given bytes bytes' : List ℕ} {calls calls' : List SinkCall} {old new : World} {held : Held} {counts : Counts} (fault : StreamFault) → fault ≢ Write
    → (so_far : HasReplayed start given bytes bytes' calls calls' old held counts new) → WritesInPart fault old so_far.found so_far.marks so_far.text calls calls'
all_texts {old = old} fault not_write so_far = record {
  whole = so_far.texts;
  left = [];
  begun = [];
  texts_are = subst (AreTexts old so_far.found so_far.marks) (sym (append-nil so_far.texts)) so_far.texts_are;
  parts = so_far.joined ∙ sym (append-nil (concat so_far.texts));
  begins = refl;
  patient = record { more = so_far.wrote.more; calls = so_far.wrote.calls; each = so_far.wrote.each };
  broken_off = λ is_write. absurd (not_write is_write);
}

-- all texts were written, and a flush gave up
texts_unflushed : {start given bytes bytes' : List ℕ} {calls calls' calls'' : List SinkCall} {old new : World} {held : Held} {counts : Counts}
    → (so_far : HasReplayed start given bytes bytes' calls calls' old held counts new) → GivesUpFlushing calls' calls'' → WritesInPart Write old so_far.found so_far.marks so_far.text calls calls''
texts_unflushed {old = old} so_far stops =
    let breaks = BreaksTexts-flush so_far.texts so_far.wrote stops in
    record {
      whole = so_far.texts;
      left = [];
      begun = [];
      texts_are = subst (AreTexts old so_far.found so_far.marks) (sym (append-nil so_far.texts)) so_far.texts_are;
      parts = so_far.joined ∙ sym (append-nil (concat so_far.texts));
      begins = refl;
      patient = record { more = breaks.more; calls = breaks.calls; each = breaks.each };
      broken_off = λ is_write. breaks.broken;
    }

-- the texts of the last line were written in part
record LastTexts (old : World) (found : List Text) (marks : List Bool) (text to reply : Text) (bytes bytes' : List ℕ) (calls calls' : List SinkCall) : Type 0 where
  front : WritesFront bytes bytes' (to ++ codes " " ++ reply ++ 10 ∷ [])
  in_part : WritesInPart Write old found marks (text ++ front.written) calls calls'

last_texts : {old : World} {found : List Text} {marks : List Bool} {calls : List SinkCall} (text : Text) (texts : List Text) (to reply : Text) (middle after : Taken)
    → WroteTexts calls middle.calls texts → text ≡ concat texts → AreTexts old found marks ((texts ++ (to ++ codes " ") ∷ []) ++ (reply ++ 10 ∷ []) ∷ [])
    → WritesBoth {A = Unit {0}} {E = Unit {0}} middle after (Err tt) (to ++ codes " ") (reply ++ codes "\n") → LastTexts old found marks text to reply middle.bytes after.bytes calls after.calls
last_texts {old = old} {found = found} {marks = marks} text texts to reply middle after wrote joined are (inl part) =
    let breaks = BreaksTexts-text texts (to ++ codes " ") ((reply ++ 10 ∷ []) ∷ []) wrote part.2 in
    record {
      front = record {
        written = part.0.written;
        rest = part.0.rest ++ (reply ++ 10 ∷ []);
        grows = part.0.grows;
        front = append_assoc (to ++ codes " ") reply (10 ∷ []) ∙ ap (λ bytes. bytes ++ (reply ++ 10 ∷ [])) part.0.front ∙ append_assoc part.0.written part.0.rest (reply ++ 10 ∷ []);
        some_left = omega (arith, part.0.some_left, length-append part.0.rest (reply ++ 10 ∷ []));
      };
      in_part = record {
        whole = texts;
        left = (to ++ codes " ") ∷ (reply ++ 10 ∷ []) ∷ [];
        begun = part.0.written;
        texts_are = subst (AreTexts old found marks) (append_assoc texts ((to ++ codes " ") ∷ []) ((reply ++ 10 ∷ []) ∷ [])) are;
        parts = ap (λ bytes. bytes ++ part.0.written) joined;
        begins = (part.0.rest, part.0.front, part.0.some_left);
        patient = record { more = breaks.more; calls = breaks.calls; each = breaks.each };
        broken_off = λ is_write. breaks.broken;
      };
    }
last_texts {old = old} {found = found} {marks = marks} text texts to reply middle after wrote joined are (inr (between, one, part)) =
    let breaks = BreaksTexts-text (texts ++ (to ++ codes " ") ∷ []) (reply ++ 10 ∷ []) [] (WroteTexts-to texts to wrote one.2) part.2 in
    record {
      front = record {
        written = (to ++ codes " ") ++ part.0.written;
        rest = part.0.rest;
        grows = part.0.grows ∙ ap (λ bytes. bytes ++ part.0.written) one.0 ∙ append_assoc middle.bytes (to ++ codes " ") part.0.written;
        front = append_assoc (to ++ codes " ") reply (10 ∷ []) ∙ ap (λ bytes. (to ++ codes " ") ++ bytes) part.0.front ∙ sym (append_assoc (to ++ codes " ") part.0.written part.0.rest);
        some_left = part.0.some_left;
      };
      in_part = record {
        whole = texts ++ (to ++ codes " ") ∷ [];
        left = (reply ++ 10 ∷ []) ∷ [];
        begun = part.0.written;
        texts_are = are;
        parts = sym (append_assoc text (to ++ codes " ") part.0.written) ∙ ap (λ bytes. bytes ++ part.0.written) (joined_push texts (to ++ codes " ") text joined);
        begins = (part.0.rest, part.0.front, part.0.some_left);
        patient = record { more = breaks.more; calls = breaks.calls; each = breaks.each };
        broken_off = λ is_write. breaks.broken;
      };
    }

-- a read failed
pub in_part_read : (before after : Given) (taken taken' : Taken) {given : List ℕ} {old new : World} {held : Held} {counts : Counts}
    → HasReplayed before.bytes given taken.bytes taken'.bytes taken.calls taken'.calls old held counts new → FindsNone given after.bytes held → Keeps before.whole after.whole
    → Keeps taken.began taken'.began → (fault : StreamFault) → fault ≢ Write → ReplaysInPart fault before after taken taken' old new
in_part_read before after taken taken' so_far none kept began fault not_write =
    in_part_whole before after taken taken' none.gave so_far none.grows (λ ended. absurd (cc)) kept fault (λ _. HasRead-none so_far.read none) (all_texts fault not_write so_far) began

-- what was answered was not flushed
pub in_part_held_back : (before after : Given) (taken taken' : Taken) {calls' : List SinkCall} {old new : World} {held : Held} {counts : Counts}
    → HasReplayed before.bytes after.bytes taken.bytes taken'.bytes taken.calls calls' old held counts new → GivesUpFlushing calls' taken'.calls → Keeps taken.began taken'.began → Reads before after fresh_held held 0
    → ReplaysInPart Write before after taken taken' old new
in_part_held_back before after taken taken' so_far stops began reads =
    in_part_whole before after taken taken' [] so_far (sym (append-nil after.bytes)) (λ ended. (refl, (has_told_end reads ended).0)) reads.whole Write
    (λ not_write. absurd (not_write refl)) (texts_unflushed so_far stops) began

-- all was replayed, and it was not flushed
pub in_part_unflushed : (before after : Given) (taken taken' : Taken) {given : List ℕ} {calls' : List SinkCall} {old new : World} {held : Held} {counts : Counts} (held' : Held)
    → HasReplayed before.bytes given taken.bytes taken'.bytes taken.calls calls' old held counts new → GivesUpFlushing calls' taken'.calls → Keeps taken.began taken'.began → Finds given after.bytes held held' End
    → (failed : ℕ) → Reads before after fresh_held held' failed → ReplaysInPart Write before after taken taken' old new
in_part_unflushed before after taken taken' held' so_far stops began finds failed reads =
    in_part_whole before after taken taken' [] so_far (finds.0 ∙ sym (append-nil _)) (λ _. (refl, (has_told_end reads finds.3).0)) reads.whole Write
    (λ not_write. absurd (not_write refl)) (texts_unflushed so_far stops) began

-- the last line was written in part
pub in_part_last : (before after : Given) (taken taken' taken'' : Taken) {given : List ℕ} {old mid new : World} {held held' : Held} {counts : Counts} {to : Text} {reply : Reply}
    → HasReplayed before.bytes given taken.bytes taken'.bytes taken.calls taken'.calls old held counts mid
    → Answered given after.bytes held held' mid to reply new
    → (IsTrue held.is_ended → (after.bytes ≡ given) × IsTrue held'.is_ended) → (failed : ℕ) → Reads before after fresh_held held' failed
    → WritesBoth {A = Unit {0}} {E = Unit {0}} taken' taken'' (Err tt) (to ++ codes " ") (reply_text reply ++ codes "\n") → Keeps taken.began taken''.began → ReplaysInPart Write before after taken taken'' old new
in_part_last before after taken taken' taken'' {old = old} {mid = mid} {new = new} {held' = held'} {counts = counts} {to = to} {reply = reply} so_far answered at_end failed reads writes began =
    let read : HasRead before.bytes after.bytes held' (so_far.found ++ answered.line ∷ []) = HasRead-line so_far.read answered.gives at_end in
    let last : LastTexts old (so_far.found ++ answered.line ∷ []) (so_far.marks ++ answered.answers.mark ∷ []) so_far.text to (reply_text reply) taken'.bytes taken''.bytes taken.calls taken''.calls =
    last_texts so_far.text so_far.texts to (reply_text reply) taken' taken'' so_far.wrote so_far.joined
    (AreTexts-line old mid new so_far.found so_far.marks so_far.text counts so_far.texts answered.line to reply so_far.leads so_far.texts_are answered.answers) writes in
    let front = last.front in
    record {
      found = so_far.found ++ answered.line ∷ [];
      marks = so_far.marks ++ answered.answers.mark ∷ [];
      text = so_far.text ++ (to ++ codes " " ++ reply_text reply ++ 10 ∷ []);
      counts = counted_with counts reply;
      written = so_far.text ++ front.written;
      unwritten = front.rest;
      first = AreFirstLines-from after.has_ended [] read (sym (append-nil after.bytes)) (λ ended. (refl, (has_told_end reads ended).0));
      kept = reads.whole;
      began = began;
      writes = front.grows ∙ ap (λ bytes. bytes ++ front.written) so_far.writes ∙ append_assoc taken.bytes so_far.text front.written;
      front = ap (λ bytes. so_far.text ++ bytes) front.front ∙ sym (append_assoc so_far.text front.written front.rest);
      none_lost = λ not_write. absurd (not_write refl);
      replied = λ not_write. absurd (not_write refl);
      leads = LeadsTo-line old mid new so_far.found so_far.marks so_far.text counts answered.line to reply so_far.leads answered.answers;
      whole = λ calls after.
          let count : length (so_far.found ++ answered.line ∷ []) - 1 ≡ length so_far.found = omega (arith, length-append so_far.found (answered.line ∷ [])) in
          let all = ap length (so_far.leads.text_is calls after) in
          rw (count, take-push (length so_far.found) so_far.found answered.line refl, take-push (length so_far.found) so_far.marks answered.answers.mark (sym so_far.leads.one_each))
          (omega (arith, all, length-append so_far.text front.written));
      texts = last.in_part;
    }

-- nothing was read or written
pub in_part_none : (before : Given) (taken : Taken) (world : World) → ReplaysInPart Memory before before taken taken world world
in_part_none before taken world = record {
  found = [];
  marks = [];
  text = [];
  counts = no_counts;
  written = [];
  unwritten = [];
  first = record { came = []; left = []; reads = sym (append-nil before.bytes); first = λ rest none. refl };
  kept = Keeps-refl before.whole;
  none_lost = λ not_write. refl;
  writes = sym (append-nil taken.bytes);
  began = Keeps-refl taken.began;
  front = refl;
  replied = λ not_write. refl;
  leads = LeadsTo-none world;
  whole = λ calls after. omega arith;
  texts = record {
    whole = [];
    left = [];
    begun = [];
    texts_are = λ calls after. refl;
    parts = refl;
    begins = refl;
    patient = record { more = []; calls = refl; each = tt };
    broken_off = λ is_write. absurd (cc);
  };
}

-- what was given until all was given is all that was known
pub gave_known : (known known' : Option (List ℕ)) (given came : List ℕ) → Keeps known known' → IfSome known' (λ whole. given ≡ whole) → given ≡ came → IfSome known (λ whole. whole ≡ came)
gave_known None known' given came kept gave is = tt
gave_known (Some whole) None given came kept gave is = absurd kept
gave_known (Some whole) (Some whole') given came kept gave is = sym kept ∙ (sym gave ∙ is)

-- all was replayed
pub replays_all : (before after : Given) (taken taken' : Taken) {given : List ℕ} {old new : World} {held : Held} {counts : Counts} (held' : Held)
    → HasReplayed before.bytes given taken.bytes taken'.bytes taken.calls taken'.calls old held counts new → Finds given after.bytes held held' End → (failed : ℕ) → Reads before after fresh_held held' failed
    → Keeps taken.began taken'.began → Replays before after taken taken' old counts new
replays_all before after taken taken' {old = old} {new = new} {counts = counts} held' so_far finds failed reads began = record {
  came = so_far.read.came;
  marks = so_far.marks;
  text = so_far.text;
  reads = finds.0 ∙ so_far.read.grows;
  ends = (has_told_end reads finds.3).0;
  all = gave_known before.whole after.whole after.bytes (before.bytes ++ so_far.read.came) reads.whole (has_told_end reads finds.3).1 (finds.0 ∙ so_far.read.grows);
  writes = so_far.writes;
  began = began;
  leads = rw (HasRead-end so_far.read finds.1) so_far.leads;
  texts = so_far.texts;
  texts_are = rw (HasRead-end so_far.read finds.1) so_far.texts_are;
  patient = record { more = so_far.wrote.more; calls = so_far.wrote.calls; each = so_far.wrote.each };
}

-- what was flushed is told so
pub HandsOn-flushed : {A : Type 0} (result : Result A StreamFault) (taken : Taken) → IsTrue taken.is_flushed → HandsOn result taken
HandsOn-flushed (Ok counts) taken flushed = flushed
HandsOn-flushed (Err Read) taken flushed = flushed
HandsOn-flushed (Err TooLong) taken flushed = flushed
HandsOn-flushed (Err Write) taken flushed = tt
HandsOn-flushed (Err Memory) taken flushed = tt

-- what a fault asks for is there where that fault came
pub HandsOn-fault : {A : Type 0} (result : Result A StreamFault) (fault : StreamFault) (taken : Taken) → IsErrAnd result (λ e. e ≡ fault) → HandsOn {A = A} (Err fault) taken → HandsOn result taken
HandsOn-fault (Ok counts) fault taken is holds = absurd is
HandsOn-fault {A = A} (Err e) fault taken is holds = subst (λ one. HandsOn {A = A} (Err one) taken) (sym is) holds

-- the answer to a line that was found, as the loop knows it
pub answered_where_too_long : (given given' : List ℕ) (held held' : Held) (old new : World) (found : Line) (line : Option Text) (to : Text) (reply : Reply)
    → held'.bounds ≡ request_bounds → found ≡ TooLong → Finds given given' held held' found → line ≡ None → ((text : Text) → IsFound line text → DoesLine old text to reply new)
    → Answered given given' held held' old to reply new
answered_where_too_long given given' held held' old new found line to reply within is finds line_is does =
    answered_too_long given given' held held' old new to reply within (subst (Finds given given' held held') is finds)
    (λ text long. does text (subst (λ (line : Option Text). IsFound line text) (sym line_is) long))

pub answered_where_whole : (given given' : List ℕ) (held held' : Held) (old new : World) (found : Line) (line : Option Text) (text to : Text) (reply : Reply)
    → held'.bounds ≡ request_bounds → found ≡ Whole → Finds given given' held held' found → line ≡ Some text → text ≡ held'.line → ((text : Text) → IsFound line text → DoesLine old text to reply new)
    → Answered given given' held held' old to reply new
answered_where_whole given given' held held' old new found line text to reply within is finds line_is text_is does =
    answered_whole given given' held held' old new to reply within (subst (Finds given given' held held') is finds)
    (λ short. does held'.line (subst (λ (line : Option Text). IsFound line held'.line) (sym line_is) (text_is, short)))

-- what is flushed is as it was
pub HasReplayed-as : {start given taken taken' taken'' : List ℕ} {calls calls' : List SinkCall} {old new : World} {held : Held} {counts : Counts} → taken'' ≡ taken'
    → HasReplayed start given taken taken' calls calls' old held counts new → HasReplayed start given taken taken'' calls calls' old held counts new
HasReplayed-as same so_far = record {
  found = so_far.found;
  marks = so_far.marks;
  text = so_far.text;
  read = so_far.read;
  writes = same ∙ so_far.writes;
  leads = so_far.leads;
  texts = so_far.texts;
  texts_are = so_far.texts_are;
  joined = so_far.joined;
  wrote = so_far.wrote;
}

pub HasReplayed-flushed : {start given taken taken' taken'' : List ℕ} {calls calls' calls'' : List SinkCall} {old new : World} {held : Held} {counts : Counts} → taken'' ≡ taken' → FlushesPatiently calls' calls''
    → HasReplayed start given taken taken' calls calls' old held counts new → HasReplayed start given taken taken'' calls calls'' old held counts new
HasReplayed-flushed same flushes so_far = record {
  found = so_far.found;
  marks = so_far.marks;
  text = so_far.text;
  read = so_far.read;
  writes = same ∙ so_far.writes;
  leads = so_far.leads;
  texts = so_far.texts;
  texts_are = so_far.texts_are;
  joined = so_far.joined;
  wrote = WroteTexts-flush so_far.wrote flushes;
}

-- no fault of reading is one of writing
pub is_no_write_fault : (fault : ReadFault) → stream_fault_of fault ≢ Write
is_no_write_fault read.Read is = absurd (cc)
is_no_write_fault read.TooLong is = absurd (cc)

-- a reply counts once at most
pub one_if-le : (b : Bool) → one_if b ≤ 1
one_if-le true = omega arith
one_if-le false = omega arith
