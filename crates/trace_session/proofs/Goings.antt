-- How sessions go on, whatever they do.
use Rattle.std.proofs.Common.{◌≡◌, ◌==◌, Bool, true, false, inl, inr, refl, sym, subst, ◌∙◌, Result, Ok, Err}
use Rattle.std.specs.Prelude.{ℕ, Option, None, IsErrOf, MatchBool}
use Rattle.line_protocol.specs.HandingOn.{HandsOnBefore}
use Rattle.line_protocol.specs.HandingOn as lines
use Rattle.line_protocol.specs.Held.{Held}
use Rattle.line_protocol.specs.declared.flushing.LineFault.{LineFault}
use Rattle.line_protocol.specs.declared.flushing.LineFault.TheVariants as line
use Rattle.line_protocol.specs.declared.line_reader.ReadFault.TheVariants as read
use Rattle.line_protocol.specs.Sink.{Taken}
use Rattle.trace_types.specs.declared.request.Request.{Request}
use Rattle.trace_types.specs.declared.reply.Reply.{Reply}
use Rattle.trace_types.specs.text.Name.{Text}
use Rattle.trace_session.specs.Asking.{most_requests}
use Rattle.trace_session.specs.Faults.{failed_reads_in, read_fault_in, session_fault_by}
use Rattle.trace_session.specs.Outputs.{GoesThroughGate, IsSameOutput}
use Rattle.trace_session.specs.Sessions.{AnswersAsked, AnswersInTime, AnswersLate, BringsNoEnd, Finishes, over_reply}
use Rattle.trace_session.specs.Written.{StopsAt, reply_line}
use Rattle.trace_session.specs.declared.session_lines.Asked.{Asked}
use Rattle.trace_session.specs.declared.session_lines.Asked.TheVariants as asked
use Rattle.trace_session.specs.declared.session_end.SessionEnd.{SessionEnd}
use Rattle.trace_session.specs.declared.session_end.SessionFault.{SessionFault}
use Rattle.trace_session.specs.declared.session_end.SessionFault.TheVariants.{Write, Gate}
use Rattle.trace_session.specs.declared.output.Output.{Output}

to_old : {W T G : Type 0} {old mid : Output W T G} (P : G → ℕ → Type 0) → IsSameOutput old mid → P mid.gate.now mid.number → P old.gate.now old.number
to_old {old = old} {mid = mid} P same holds = subst (λ number. P old.gate.now number) same.number (subst (λ gate. P gate mid.number) same.gate holds)

module _ {W T G : Type 0} {took : W → Taken} {lets_out holds_back : G → ℕ → Type 0} where
  -- what goes out after something went out
  pub Through-then : {A B : Type 0} {old mid new : Output W T G} {first : Result A SessionFault} {result : Result B SessionFault}
      → GoesThroughGate took lets_out holds_back old mid first → GoesThroughGate took lets_out holds_back mid new result → GoesThroughGate took lets_out holds_back old new result
  Through-then before after = record {
    same = record { writer = after.same.writer ∙ before.same.writer; gate = after.same.gate ∙ before.same.gate; number = after.same.number ∙ before.same.number };
    let_out =
        elim before.let_out [
          | inl nothing ↦
              elim after.let_out [
                | inl none ↦ inl (none ∙ nothing)
                | inr let_out ↦ inr (to_old lets_out before.same let_out)
              ]
          | inr let_out ↦ inr let_out
        ];
    gate = λ is. to_old holds_back before.same (after.gate is);
  }

  -- nothing goes out where all that was written stays
  pub Through-none : {old new : Output W T G} → IsSameOutput old new → (took new.writer.now).bytes ≡ (took old.writer.now).bytes → GoesThroughGate {A = ℕ} took lets_out holds_back old new (Ok 0)
  Through-none same bytes = record { same = same; let_out = inl bytes; gate = λ none. absurd (cc) }

  -- no fault is one of the gate where there is none
  pub Through-ok : {A : Type 0} {old new : Output W T G} {result : Result A SessionFault} → GoesThroughGate took lets_out holds_back old new result → GoesThroughGate {A = ℕ} took lets_out holds_back old new (Ok 0)
  Through-ok through = record { same = through.same; let_out = through.let_out; gate = λ none. absurd (cc) }

-- where no line was found, what was written stays
pub unread_bytes : (A : Type 0) (held : Held) (fault : LineFault) (before after : Taken) → HandsOnBefore {A = A} held (Err fault) before after → after.bytes ≡ before.bytes
unread_bytes A held (line.Read fault) before after hands = hands.0
unread_bytes A held line.Write before after stops = stops.0

-- the fault tells which read failed, and is not the gate's
pub unread_fault : (A B : Type 0) (fault : LineFault) → (lines.failed_reads_in {A = A} (Err fault) ≡ failed_reads_in {A = B} (Err (session_fault_by fault)))
    × (lines.read_fault_in {A = A} (Err fault) ≡ read_fault_in {A = B} (Err (session_fault_by fault))) × ((P : Type 0) → IsErrOf {T = B} (Err (session_fault_by fault)) Gate → P)
unread_fault A B (line.Read read.Read) = (refl, refl, λ P is. absurd (cc))
unread_fault A B (line.Read read.TooLong) = (refl, refl, λ P is. absurd (cc))
unread_fault A B line.Write = (refl, refl, λ P is. absurd (cc))

-- a fault is the gate's whatever the result holds where there is none
pub same_gate : (A B : Type 0) (fault : SessionFault) → IsErrOf {T = A} (Err fault) Gate → IsErrOf {T = B} (Err fault) Gate
same_gate A B Gate is = refl
same_gate A B fault is = absurd (cc)

-- no fault of writing is one of reading
abbrev pub IsNoRead : {A : Type 0} → Result A SessionFault → Type 0
IsNoRead result = (failed_reads_in result ≡ 0) × (read_fault_in result ≡ None)

stops_unread : (A : Type 0) (fault : SessionFault) (before after : Taken) (line : Text) → StopsAt fault before after line → IsNoRead {A = A} (Err fault)
stops_unread A Write before after line stops = (refl, refl)
stops_unread A Gate before after line stops = (refl, refl)
stops_unread A fault before after line stops = absurd stops

pub finished_unread : (end : SessionEnd) (before after : Taken) (result : Result SessionEnd SessionFault) → Finishes end before after result → IsNoRead result
finished_unread end before after (Ok other) finishes = (refl, refl)
finished_unread end before after (Err fault) finishes = subst (λ f. IsNoRead {A = SessionEnd} (Err f)) (sym finishes.0) (refl, refl)

pub answered_unread : {S : Type 0} (Does : S → Request → Reply → S → Type 0) (asks : Asked) (count : ℕ) (old new : S) (before after : Taken) (fault : SessionFault)
    → AnswersAsked Does asks count old new before after (Err fault) → IsNoRead {A = SessionEnd} (Err fault)
answered_unread Does asked.End count old new before after fault answers = absurd (let no = answers.0 in cc)
answered_unread Does asked.Quit count old new before after fault answers = absurd (let no = answers.0 in cc)
answered_unread Does (asked.Request request) count old new before after fault answers = by (count == most_requests) answers
  where
    by : (late : Bool) → MatchBool late (AnswersLate old new before after (Err fault)) (AnswersInTime {E = Option SessionEnd} Does request old new before after (Err fault) × BringsNoEnd (Err fault)) → IsNoRead {A = SessionEnd} (Err fault)
    by true (same, stops, is) = stops_unread SessionEnd fault before after (reply_line over_reply) stops
    by false (answer, goes) = stops_unread SessionEnd fault before after (reply_line answer.reply) answer.put_out
