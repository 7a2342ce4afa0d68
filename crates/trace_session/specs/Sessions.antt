-- What a session did.
use Rattle.std.specs.Prelude.{◌≡◌, ℕ, ◌≤◌, false, IsTrue, Result, Ok, Err, List, [], ◌∷◌, ◌++◌, ◌⊎◌, ◌==◌, length, map, Option, Some, None, IfSome, IsSomeAnd, IfOk, MatchBool}
use Rattle.std.specs.List.{AllByRecursion}
use Rattle.std.specs.Option.{option_to_list}
use Rattle.trace_types.specs.text.Name.{Text}
use Rattle.trace_types.specs.declared.code.Code.TheVariants.{SessionOver}
use Rattle.trace_types.specs.declared.request.Request.{Request}
use Rattle.trace_types.specs.declared.reply.Reply.{Reply}
use Rattle.trace_types.specs.declared.reply.Reply.TheVariants as reply
use Rattle.line_protocol.specs.Ends.{HasNoEnd}
use Rattle.line_protocol.specs.Held.{Held}
use Rattle.line_protocol.specs.LineReading.{AllWereMade}
use Rattle.line_protocol.specs.Sink.{Taken}
use Rattle.line_protocol.specs.Writing.{HandsAllOn, StopsHandingOn}
use Rattle.line_protocol.specs.declared.line_reader.ReadFault.TheVariants as read
use Rattle.trace_session.specs.Answers.{AnswersEach, AnswersLine, last_reply}
use Rattle.trace_session.specs.Asking.{is_quit, most_requests, request_in}
use Rattle.trace_session.specs.Reading.{ReadsLines}
use Rattle.trace_session.specs.State.{State}
use Rattle.trace_session.specs.Written.{PutsOut, WritesAll, WritesLinesInPart, reply_line}
use Rattle.trace_session.specs.declared.session_lines.Asked.{Asked}
use Rattle.trace_session.specs.declared.session_lines.Asked.TheVariants as asked
use Rattle.trace_session.specs.declared.session_end.SessionEnd.{SessionEnd}
use Rattle.trace_session.specs.declared.session_end.SessionEnd.TheVariants.{Quit, EndOfInput, Over}
use Rattle.trace_session.specs.declared.session_end.SessionFault.{SessionFault}
use Rattle.trace_session.specs.declared.session_end.SessionFault.TheVariants.{Read, Write, TooLong, Memory, Gate}

-- Behind so many requests comes no line, or `quit`, or a line after all the requests that a session may make.
abbrev pub Closes : ℕ → ℕ → Option Text → Type 0
Closes most requests None = Unit {0}
Closes most requests (Some text) = IsTrue (is_quit most text) ⊎ (requests ≡ most_requests)

-- Which end is due by the last line, if there was one, and by the bytes that are left; and what was left at a fault. No
-- line whose end came is lost where a read fails, or where all the reads were made.
abbrev pub EndsBy : Result SessionEnd SessionFault → ℕ → Option Text → List ℕ → Held → Type 0
EndsBy (Ok Quit) most last left held = IsSomeAnd last (λ text. IsTrue (is_quit most text)) × (left ≡ held.left)
EndsBy (Ok EndOfInput) most last left held = (last ≡ None) × (left ≡ held.left) × (left ≡ []) × IsTrue held.is_ended
EndsBy (Ok Over) most last left held = IsSomeAnd last (λ text. is_quit most text ≡ false) × (left ≡ held.left)
EndsBy (Err Read) most last left held = (last ≡ None) × HasNoEnd left
EndsBy (Err TooLong) most last left held = (last ≡ None) × HasNoEnd left × AllWereMade read.TooLong held
EndsBy (Err Write) most last left held = left ≡ held.left
EndsBy (Err Gate) most last left held = IfSome last (λ text. is_quit most text ≡ false) × (left ≡ held.left)
EndsBy other most last left held = ⊥

-- Which of these replies were written: all, but those that a write fault cut off, and the one that the gate held back.
abbrev pub WritesUntil : Result SessionEnd SessionFault → Taken → Taken → List Reply → Type 0
WritesUntil (Err Write) before after replies = WritesLinesInPart before after replies
WritesUntil (Err Gate) before after replies =
    (front : List Reply) × (held_back : Reply) × (replies ≡ front ++ held_back ∷ []) × WritesAll before after front
WritesUntil (Err Memory) before after replies = ⊥
WritesUntil other before after replies = WritesAll before after replies

-- Lines were read: requests, and perhaps one line behind them. What the requests ask was answered in turn by what was
-- lent, and so many of the replies were written as the end or the fault tells.
pub record Session {S : Type 0} (Does : S → Request → Reply → S → Type 0) (old new : S) (before after : State) (result : Result SessionEnd SessionFault) : Type 0 where
  pub requests : List Text
  pub last : Option Text
  pub answers : List Reply
  pub left : List ℕ
  pub reads : ReadsLines before.given.bytes after.given.bytes before.held.left left after.held.is_ended (requests ++ option_to_list last)
  pub none_quits : AllByRecursion (λ text. is_quit before.held.bounds.bytes text ≡ false) requests
  pub at_most : length requests ≤ most_requests
  pub closes : Closes before.held.bounds.bytes (length requests) last
  pub answered : AnswersEach Does old (map (request_in before.held.bounds.bytes) requests) answers new
  pub ends : EndsBy result before.held.bounds.bytes last left after.held
  pub writes : WritesUntil result before.taken after.taken (answers ++ last_reply before.held.bounds.bytes last)

-- the reply to a line after all the requests that a session may make
abbrev pub over_reply : Reply
over_reply = reply.Refused SessionOver

-- The line came after all the requests: it is answered so, and changes nothing.
abbrev pub AnswersLate : {S : Type 0} → S → S → Taken → Taken → Result (Option SessionEnd) SessionFault → Type 0
AnswersLate old new before after result =
    (new ≡ old) × PutsOut before after result (reply_line over_reply) × IfOk result (λ end. end ≡ Some Over)

-- The request was answered, and the reply was written or held back.
pub record AnswersInTime {S E : Type 0} (Does : S → Request → Reply → S → Type 0) (request : Option Request) (old new : S) (before after : Taken) (result : Result E SessionFault) : Type 0 where
  pub reply : Reply
  pub answered : AnswersLine Does old request reply new
  pub put_out : PutsOut before after result (reply_line reply)

-- The request was answered, and the session goes on unless there was a fault.
abbrev pub BringsNoEnd : Result (Option SessionEnd) SessionFault → Type 0
BringsNoEnd result = IfOk result (λ end. end ≡ None)

-- What was asked after so many requests was answered.
abbrev pub AnswersAsked : {S : Type 0} → (S → Request → Reply → S → Type 0) → Asked → ℕ → S → S → Taken → Taken → Result (Option SessionEnd) SessionFault → Type 0
AnswersAsked Does asked.End requests old new before after result = (result ≡ Ok (Some EndOfInput)) × (new ≡ old) × (after ≡ before)
AnswersAsked Does asked.Quit requests old new before after result = (result ≡ Ok (Some Quit)) × (new ≡ old) × (after ≡ before)
AnswersAsked Does (asked.Request request) requests old new before after result =
    MatchBool (requests == most_requests) (AnswersLate old new before after result) (AnswersInTime Does request old new before after result × BringsNoEnd result)

-- All was handed on at this end, or a write fault came.
abbrev pub Finishes : SessionEnd → Taken → Taken → Result SessionEnd SessionFault → Type 0
Finishes end before after (Ok other) = (other ≡ end) × HandsAllOn before after
Finishes end before after (Err fault) = (fault ≡ Write) × StopsHandingOn before after
