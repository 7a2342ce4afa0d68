-- Line after line of a session.
use Rattle.std.proofs.Common.{◌≡◌, ◌≢◌, ◌≤◌, ◌<◌, ◌+◌, Bool, true, false, List, [], ◌∷◌, ◌++◌, inl, inr, length, map, refl, sym, ap, ◌∙◌, subst, arith, eqb-true, eq-eqb, ◌==◌}
use Rattle.std.proofs.lemmas.List.{append-nil, length-append, map-append}
use Rattle.std.specs.List.{AllByRecursion}
use Rattle.std.specs.Prelude.{ℕ, IsTrue, Option, Some, None, IfNone, IfSome, Result, Ok, Err, IsErrAnd, MatchBool}
use Rattle.trace_types.specs.text.Name.{Text}
use Rattle.trace_types.specs.declared.request.Request.{Request}
use Rattle.trace_types.specs.declared.reply.Reply.{Reply}
use Rattle.line_protocol.specs.HandingOn.{FindsBehind, HandsOnBefore, KeepsAll}
use Rattle.line_protocol.specs.Held.{Held, ReadingBounds}
use Rattle.line_protocol.specs.declared.flushing.LineFault.{LineFault}
use Rattle.line_protocol.specs.declared.flushing.LineFault.TheVariants as line
use Rattle.line_protocol.specs.declared.line_reader.ReadFault.TheVariants as read
use Rattle.line_protocol.specs.Sink.{Taken}
use Rattle.line_protocol.specs.Source.{Given}
use Rattle.trace_session.proofs.Reading.{ReadsLines-none, ReadsLines-line, ReadsLines-more, ReadsLines-same}
use Rattle.trace_session.proofs.Writing.{Wrote, Wrote-none, Wrote-kept, Wrote-line, WritesAll-from, WritesLinesInPart-held, WritesLinesInPart-line}
use Rattle.trace_session.specs.Answers.{AnswersEach, AnswersLine, last_reply}
use Rattle.trace_session.specs.Asking.{FindsAsked, is_quit, most_requests, request_in}
use Rattle.trace_session.specs.Faults.{session_fault_by}
use Rattle.trace_session.specs.Reading.{ReadsLines}
use Rattle.trace_session.specs.Sessions.{AnswersAsked, AnswersInTime, AnswersLate, Closes, EndsBy, Finishes, BringsNoEnd, Session, WritesUntil, over_reply}
use Rattle.trace_session.specs.State.{State, state}
use Rattle.trace_session.specs.Written.{StopsAt, reply_line}
use Rattle.trace_session.specs.declared.session_lines.Asked.{Asked}
use Rattle.trace_session.specs.declared.session_lines.Asked.TheVariants as asked
use Rattle.trace_session.specs.declared.session_end.SessionEnd.{SessionEnd}
use Rattle.trace_session.specs.declared.session_end.SessionEnd.TheVariants.{Quit, EndOfInput, Over}
use Rattle.trace_session.specs.declared.session_end.SessionFault.{SessionFault}
use Rattle.trace_session.specs.declared.session_end.SessionFault.TheVariants.{Read, Write, TooLong, Gate}

-- These lines are requests, and were answered so, where lines have at most so many bytes.
pub record Answered {S : Type 0} (Does : S → Request → Reply → S → Type 0) (most : ℕ) (old new : S) (requests : List Text) (answers : List Reply) : Type 0 where
  pub none_quits : AllByRecursion (λ text. is_quit most text ≡ false) requests
  pub each : AnswersEach Does old (map (request_in most) requests) answers new

-- So many lines were read and answered.
pub record HasAnswered {S : Type 0} (Does : S → Request → Reply → S → Type 0) (start now : State) (old new : S) (count : ℕ) : Type 0 where
  pub requests : List Text
  pub answers : List Reply
  pub read : ReadsLines start.given.bytes now.given.bytes start.held.left now.held.left now.held.is_ended requests
  pub counted : length requests ≡ count
  pub answered : Answered Does start.held.bounds.bytes old new requests answers
  pub wrote : Wrote start.taken now.taken answers

pub HasAnswered-none : {S : Type 0} (Does : S → Request → Reply → S → Type 0) (start : State) (lent : S) → HasAnswered Does start start lent lent 0
HasAnswered-none Does start lent = record {
  requests = [];
  answers = [];
  read = ReadsLines-none start.given.bytes start.held.left start.held.is_ended;
  counted = refl;
  answered = record { none_quits = tt; each = refl };
  wrote = Wrote-none start.taken;
}

-- one more answered
AnswersEach-push : {S : Type 0} (Does : S → Request → Reply → S → Type 0) (old mid new : S) (requests : List (Option Request)) (answers : List Reply) (request : Option Request) (reply : Reply)
    → AnswersEach Does old requests answers mid → AnswersLine Does mid request reply new → AnswersEach Does old (requests ++ request ∷ []) (answers ++ reply ∷ []) new
AnswersEach-push Does old mid new [] [] request reply each one = (new, subst (λ state. AnswersLine Does state request reply new) each one, refl)
AnswersEach-push Does old mid new [] (answer ∷ answers) request reply each one = absurd each
AnswersEach-push Does old mid new (first ∷ requests) [] request reply each one = absurd each
AnswersEach-push Does old mid new (first ∷ requests) (answer ∷ answers) request reply (between, line, rest) one =
    (between, line, AnswersEach-push Does between mid new requests answers request reply rest one)

AllByRecursion-push : {A : Type 0} (P : A → Type 0) (xs : List A) (x : A) → AllByRecursion P xs → P x → AllByRecursion P (xs ++ x ∷ [])
AllByRecursion-push P [] x all one = (one, tt)
AllByRecursion-push P (y ∷ ys) x all one = (all.0, AllByRecursion-push P ys x all.1 one)

Answered-line : {S : Type 0} {Does : S → Request → Reply → S → Type 0} {most : ℕ} {old mid new : S} {requests : List Text} {answers : List Reply} (text : Text) (request : Option Request) (reply : Reply)
    → Answered Does most old mid requests answers → is_quit most text ≡ false → request ≡ request_in most text → AnswersLine Does mid request reply new
    → Answered Does most old new (requests ++ text ∷ []) (answers ++ reply ∷ [])
Answered-line {Does = Does} {most = most} {old = old} {mid = mid} {new = new} {requests = requests} {answers = answers} text request reply before no_quit asks one = record {
  none_quits = AllByRecursion-push (λ line. is_quit most line ≡ false) requests text before.none_quits no_quit;
  each = rw (map-append (request_in most) requests (text ∷ []))
      (AnswersEach-push Does old mid new (map (request_in most) requests) answers (request_in most text) reply before.each (subst (λ asks. AnswersLine Does mid asks reply new) asks one));
}

-- no line came behind the requests
session_alone : {S : Type 0} (Does : S → Request → Reply → S → Type 0) (start after : State) (old new : S) (result : Result SessionEnd SessionFault) (requests : List Text) (answers : List Reply) (left : List ℕ)
    → Answered Does start.held.bounds.bytes old new requests answers → ReadsLines start.given.bytes after.given.bytes start.held.left left after.held.is_ended requests
    → length requests ≤ most_requests → EndsBy result start.held.bounds.bytes None left after.held → WritesUntil result start.taken after.taken answers
    → Session Does old new start after result
session_alone Does start after old new result requests answers left answered reads few ends writes = record {
  requests = requests;
  last = None;
  answers = answers;
  left = left;
  reads = rw (append-nil requests) reads;
  none_quits = answered.none_quits;
  at_most = few;
  closes = tt;
  answered = answered.each;
  ends = ends;
  writes = subst (WritesUntil result start.taken after.taken) (sym (append-nil answers)) writes;
}

-- one line came behind them
session_closed : {S : Type 0} (Does : S → Request → Reply → S → Type 0) (start after : State) (old new : S) (result : Result SessionEnd SessionFault) (requests : List Text) (answers : List Reply) (text : Text) (more : List Reply)
    → Answered Does start.held.bounds.bytes old new requests answers → ReadsLines start.given.bytes after.given.bytes start.held.left after.held.left after.held.is_ended (requests ++ text ∷ [])
    → length requests ≤ most_requests → Closes start.held.bounds.bytes (length requests) (Some text) → last_reply start.held.bounds.bytes (Some text) ≡ more
    → EndsBy result start.held.bounds.bytes (Some text) after.held.left after.held → WritesUntil result start.taken after.taken (answers ++ more)
    → Session Does old new start after result
session_closed Does start after old new result requests answers text more answered reads few closes replies ends writes = record {
  requests = requests;
  last = Some text;
  answers = answers;
  left = after.held.left;
  reads = reads;
  none_quits = answered.none_quits;
  at_most = few;
  closes = closes;
  answered = answered.each;
  ends = ends;
  writes = subst (λ last. WritesUntil result start.taken after.taken (answers ++ last)) (sym replies) writes;
}

-- no line was found any more
pub session_unread : {S R : Type 0} (A : Type 0) (Does : S → Request → Reply → S → Type 0) (seen : R → Given) (source source' : R) (start : State) (held held' : Held) (taken taken' : Taken) (old new : S) (count : ℕ) (fault : LineFault)
    → HasAnswered Does start (state (seen source) held taken) old new count → count ≤ most_requests → FindsBehind seen source source' held held' (Err fault) → HandsOnBefore {A = A} held (Err fault) taken taken'
    → Session Does old new start (state (seen source') held' taken') (Err (session_fault_by fault))
session_unread A Does seen source source' start held held' taken taken' old new count (line.Read read.Read) so_far few finds hands =
    session_alone Does start (state (seen source') held' taken') old new (Err Read) so_far.requests so_far.answers (held.left ++ finds.none.gave) so_far.answered
    (ReadsLines-more held'.is_ended finds.none.gave so_far.read finds.none.grows finds.none.goes_on) (omega (arith, so_far.counted, few)) (refl, finds.none.no_end) (WritesAll-from so_far.wrote hands)
session_unread A Does seen source source' start held held' taken taken' old new count (line.Read read.TooLong) so_far few finds hands =
    session_alone Does start (state (seen source') held' taken') old new (Err TooLong) so_far.requests so_far.answers (held.left ++ finds.none.gave) so_far.answered
    (ReadsLines-more held'.is_ended finds.none.gave so_far.read finds.none.grows finds.none.goes_on) (omega (arith, so_far.counted, few)) (refl, finds.none.no_end, finds.reads.too_long) (WritesAll-from so_far.wrote hands)
session_unread A Does seen source source' start held held' taken taken' old new count line.Write so_far few (source_is, held_is) hands =
    session_alone Does start (state (seen source') held' taken') old new (Err Write) so_far.requests so_far.answers held'.left so_far.answered
    (ReadsLines-same so_far.read (ap (λ one. (seen one).bytes) source_is) (ap (λ (h : Held). h.left) held_is) (λ ended. ap (λ (h : Held). h.is_ended) held_is ∙ ended))
    (omega (arith, so_far.counted, few)) refl
    (subst (λ replies. WritesUntil (Err Write) start.taken taken' replies) (append-nil so_far.answers) (WritesLinesInPart-held [] (omega arith) so_far.wrote hands))

-- the writes up to a reply that was not written whole
stopped_writes : {taken mid : Taken} (taken' : Taken) {answers : List Reply} (fault : SessionFault) (reply : Reply) → Wrote taken mid answers → StopsAt fault mid taken' (reply_line reply)
    → WritesUntil (Err fault) taken taken' (answers ++ reply ∷ [])
stopped_writes taken' Write reply wrote (inl part) = WritesLinesInPart-line reply wrote part
stopped_writes taken' Write reply wrote (inr stops) = WritesLinesInPart-held (reply ∷ []) (omega arith) wrote stops
stopped_writes taken' {answers = answers} Gate reply wrote hands = (answers, reply, refl, WritesAll-from wrote hands)
stopped_writes taken' fault reply wrote stops = absurd stops

stopped_ends : (mid taken' : Taken) (line : Text) (fault : SessionFault) (most : ℕ) (last : Option Text) (held : Held) → StopsAt fault mid taken' line → IfSome last (λ text. is_quit most text ≡ false)
    → EndsBy (Err fault) most last held.left held
stopped_ends mid taken' line Write most last held stops no_quit = refl
stopped_ends mid taken' line Gate most last held stops no_quit = (no_quit, refl)
stopped_ends mid taken' line fault most last held stops no_quit = absurd stops

-- fewer than the most
fewer : (count : ℕ) → count ≤ most_requests → (count == most_requests) ≡ false → count < most_requests
fewer count few not_all = let differ : count ≢ most_requests = λ same. let all = eq-eqb count most_requests same in absurd (cc) in omega arith

same_answered : {S : Type 0} {Does : S → Request → Reply → S → Type 0} {most : ℕ} {old new new' : S} {requests : List Text} {answers : List Reply} → new' ≡ new → Answered Does most old new requests answers → Answered Does most old new' requests answers
same_answered {Does = Does} {most = most} {old = old} {requests = requests} {answers = answers} same answered = subst (λ state. Answered Does most old state requests answers) (sym same) answered

late_reply : (most : ℕ) (text : Text) → is_quit most text ≡ false → last_reply most (Some text) ≡ over_reply ∷ []
late_reply most text no_quit = rw no_quit refl

quit_reply : (most : ℕ) (text : Text) → IsTrue (is_quit most text) → last_reply most (Some text) ≡ []
quit_reply most text quit = rw quit refl

-- all is handed on at this end, or not
finished : {taken mid taken' : Taken} {replies : List Reply} (end : SessionEnd) (result : Result SessionEnd SessionFault) (Ends Holds : Result SessionEnd SessionFault → Type 0)
    → ((one : Result SessionEnd SessionFault) → Ends one → WritesUntil one taken taken' replies → Holds one) → Ends (Ok end) → Ends (Err Write)
    → Wrote taken mid replies → Finishes end mid taken' result → Holds result
finished end (Ok other) Ends Holds make ok failed wrote finishes =
    subst (λ one. Holds (Ok one)) (sym finishes.0) (make (Ok end) ok (WritesAll-from wrote finishes.1))
finished {taken = taken} {taken' = taken'} {replies = replies} end (Err fault) Ends Holds make ok failed wrote finishes =
    subst (λ one. Holds (Err one)) (sym finishes.0)
    (make (Err Write) failed (subst (λ all. WritesUntil (Err Write) taken taken' all) (append-nil replies) (WritesLinesInPart-held [] (omega arith) wrote finishes.1)))

-- What came of a line after so many: one line more was answered, or the session is over once all is handed on, or it has come
-- to a fault.
abbrev pub Comes : {S : Type 0} → (S → Request → Reply → S → Type 0) → State → State → S → S → ℕ → Result (Option SessionEnd) SessionFault → Type 0
Comes Does start after old new count (Ok None) = HasAnswered Does start after old new (count + 1) × (count < most_requests)
Comes Does start after old new count (Ok (Some end)) =
    (taken : Taken) (result : Result SessionEnd SessionFault) → Finishes end after.taken taken result → Session Does old new start (state after.given after.held taken) result
Comes Does start after old new count (Err fault) = Session Does old new start after (Err fault)

-- one line was read, and what it asks was answered
pub Comes-of : {S : Type 0} (Does : S → Request → Reply → S → Type 0) (start now after : State) (old between new : S) (count : ℕ) (asks : Asked) (result : Result (Option SessionEnd) SessionFault)
    → HasAnswered Does start now old between count → count ≤ most_requests → after.held.bounds ≡ start.held.bounds → FindsAsked now.given.bytes after.given.bytes now.held after.held asks
    → (IsTrue now.held.is_ended → (after.given.bytes ≡ now.given.bytes) × IsTrue after.held.is_ended) → AnswersAsked Does asks count between new now.taken after.taken result
    → Comes Does start after old new count result
Comes-of Does start now after old between new count asked.End result so_far few same finds at_end (is, new_is, silent) =
    subst (Comes Does start after old new count) (sym is)
    (λ taken last finishes.
    finished EndOfInput last (λ one. EndsBy one start.held.bounds.bytes None after.held.left after.held) (λ one. Session Does old new start (state after.given after.held taken) one)
    (λ one ends writes. session_alone Does start (state after.given after.held taken) old new one so_far.requests so_far.answers after.held.left (same_answered new_is so_far.answered)
    (ReadsLines-same so_far.read finds.0 (finds.2 ∙ sym finds.1) (λ ended. (at_end ended).1)) (omega (arith, so_far.counted, few)) ends writes)
    (refl, refl, finds.2, finds.3) refl (subst (λ took. Wrote start.taken took so_far.answers) (sym silent) so_far.wrote) finishes)
Comes-of Does start now after old between new count asked.Quit result so_far few same finds at_end (is, new_is, silent) =
    let text = finds.0 in
    let quit : IsTrue (is_quit start.held.bounds.bytes text) = subst (λ (bounds : ReadingBounds). IsTrue (is_quit bounds.bytes text)) same finds.2 in
    subst (Comes Does start after old new count) (sym is)
    (λ taken last finishes.
    finished Quit last (λ one. EndsBy one start.held.bounds.bytes (Some text) after.held.left after.held) (λ one. Session Does old new start (state after.given after.held taken) one)
    (λ one. session_closed Does start (state after.given after.held taken) old new one so_far.requests so_far.answers text [] (same_answered new_is so_far.answered)
    (ReadsLines-line so_far.read finds.1 at_end) (omega (arith, so_far.counted, few)) (inl quit) (quit_reply start.held.bounds.bytes text quit))
    (quit, refl) refl
    (subst (λ replies. Wrote start.taken after.taken replies) (sym (append-nil so_far.answers)) (subst (λ took. Wrote start.taken took so_far.answers) (sym silent) so_far.wrote)) finishes)
Comes-of {S = S} Does start now after old between new count (asked.Request request) result so_far few same finds at_end answers =
    by (count == most_requests) refl result answers
  where
    text : Text
    text = finds.0

    no_quit : is_quit start.held.bounds.bytes text ≡ false
    no_quit = subst (λ (bounds : ReadingBounds). is_quit bounds.bytes text ≡ false) same finds.2

    asks : request ≡ request_in start.held.bounds.bytes text
    asks = subst (λ (bounds : ReadingBounds). request ≡ request_in bounds.bytes text) same finds.3

    -- the line came after all the requests
    over : (count == most_requests) ≡ true → new ≡ between → (taken : Taken) (one : Result SessionEnd SessionFault)
        → EndsBy one start.held.bounds.bytes (Some text) after.held.left after.held → WritesUntil one start.taken taken (so_far.answers ++ over_reply ∷ []) → Session Does old new start (state after.given after.held taken) one
    over late new_is taken one =
        session_closed Does start (state after.given after.held taken) old new one so_far.requests so_far.answers text (over_reply ∷ []) (same_answered new_is so_far.answered)
        (ReadsLines-line so_far.read finds.1 at_end) (omega (arith, so_far.counted, few)) (inr (so_far.counted ∙ eqb-true count most_requests late)) (late_reply start.held.bounds.bytes text no_quit)

    by : (late : Bool) → (count == most_requests) ≡ late → (came : Result (Option SessionEnd) SessionFault)
        → MatchBool late (AnswersLate between new now.taken after.taken came) (AnswersInTime Does request between new now.taken after.taken came × BringsNoEnd came) → Comes Does start after old new count came
    by true late (Err fault) (new_is, stops, is) =
        over late new_is after.taken (Err fault) (stopped_ends now.taken after.taken (reply_line over_reply) fault start.held.bounds.bytes (Some text) after.held stops no_quit) (stopped_writes after.taken fault over_reply so_far.wrote stops)
    by true late (Ok None) (new_is, writes_line, is) = absurd (cc)
    by true late (Ok (Some end)) (new_is, writes_line, is) = λ taken last finishes.
        finished Over last (λ one. EndsBy one start.held.bounds.bytes (Some text) after.held.left after.held) (λ one. Session Does old new start (state after.given after.held taken) one)
        (over late new_is taken) (no_quit, refl) refl (Wrote-line over_reply so_far.wrote writes_line)
        (let end_is : end ≡ Over = cc in subst (λ e. Finishes e after.taken taken last) end_is finishes)
    by false late (Err fault) (answer, goes) =
        session_alone Does start after old new (Err fault) (so_far.requests ++ text ∷ []) (so_far.answers ++ answer.reply ∷ []) after.held.left
        (Answered-line text request answer.reply so_far.answered no_quit asks answer.answered)
        (ReadsLines-line so_far.read finds.1 at_end) (omega (arith, so_far.counted, fewer count few late, length-append so_far.requests (text ∷ [])))
        (stopped_ends now.taken after.taken (reply_line answer.reply) fault start.held.bounds.bytes None after.held answer.put_out tt) (stopped_writes after.taken fault answer.reply so_far.wrote answer.put_out)
    by false late (Ok (Some end)) (answer, goes) = absurd (cc)
    by false late (Ok None) (answer, goes) = (
      record {
        requests = so_far.requests ++ text ∷ [];
        answers = so_far.answers ++ answer.reply ∷ [];
        read = ReadsLines-line so_far.read finds.1 at_end;
        counted = omega (arith, so_far.counted, length-append so_far.requests (text ∷ []));
        answered = Answered-line text request answer.reply so_far.answered no_quit asks answer.answered;
        wrote = Wrote-line answer.reply so_far.wrote answer.put_out;
      },
      fewer count few late,
    )

-- what was written before a line was read stays
pub HasAnswered-kept : {S : Type 0} {Does : S → Request → Reply → S → Type 0} {start now : State} {old new : S} {count : ℕ} (taken : Taken)
    → HasAnswered Does start now old new count → KeepsAll now.taken taken → HasAnswered Does start (state now.given now.held taken) old new count
HasAnswered-kept taken so_far keeps = record {
  requests = so_far.requests;
  answers = so_far.answers;
  read = so_far.read;
  counted = so_far.counted;
  answered = so_far.answered;
  wrote = Wrote-kept so_far.wrote keeps;
}

-- the one fault that there is
pub fault_is : {T E : Type 0} (result : Result T E) (fault : E) → IsErrAnd result (λ e. e ≡ fault) → result ≡ Err fault
fault_is (Ok value) fault is = absurd is
fault_is (Err e) fault is = ap Err is

pub IfNone-holds : {A P : Type 0} (option : Option A) → P → IfNone option P
IfNone-holds None holds = holds
IfNone-holds (Some value) holds = tt
