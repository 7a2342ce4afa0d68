-- The one line of a session that is refused.
use Rattle.std.proofs.Common.{◌≡◌, [], ◌∷◌, inl, inr, sym, subst, arith, Result, Ok, Err, IsErrAnd}
use Rattle.trace_types.specs.declared.code.Code.{Code}
use Rattle.trace_types.specs.declared.reply.Reply.TheVariants as reply
use Rattle.line_protocol.specs.Sink.{Taken}
use Rattle.line_protocol.specs.Writing.{WritesWhole}
use Rattle.trace_session.proofs.AnsweredLines.{fault_is}
use Rattle.trace_session.proofs.Writing.{Wrote-none, Wrote-line, WritesAll-from, WritesLinesInPart-held, WritesLinesInPart-line}
use Rattle.trace_session.specs.Conversations.{TurnsAway}
use Rattle.trace_session.specs.Sessions.{Finishes}
use Rattle.trace_session.specs.Written.{StopsAt, reply_line}
use Rattle.trace_session.specs.declared.session_end.SessionEnd.{SessionEnd}
use Rattle.trace_session.specs.declared.session_end.SessionEnd.TheVariants.{Refused}
use Rattle.trace_session.specs.declared.session_end.SessionFault.{SessionFault}
use Rattle.trace_session.specs.declared.session_end.SessionFault.TheVariants.{Write, Gate}

refused_stops : (code : Code) (taken taken' : Taken) (fault : SessionFault) → StopsAt fault taken taken' (reply_line (reply.Refused code)) → TurnsAway code taken taken' (Err fault)
refused_stops code taken taken' Write (inl part) = WritesLinesInPart-line (reply.Refused code) (Wrote-none taken) part
refused_stops code taken taken' Write (inr stops) = WritesLinesInPart-held (reply.Refused code ∷ []) (omega arith) (Wrote-none taken) stops
refused_stops code taken taken' Gate hands = WritesAll-from (Wrote-none taken) hands
refused_stops code taken taken' fault stops = absurd stops

-- the line was not written whole
pub TurnsAway-stopped : (code : Code) (taken taken' : Taken) (result : Result SessionEnd SessionFault) (fault : SessionFault) → IsErrAnd result (λ e. e ≡ fault)
    → StopsAt fault taken taken' (reply_line (reply.Refused code)) → TurnsAway code taken taken' result
TurnsAway-stopped code taken taken' result fault is stops = rw (fault_is result fault is) (refused_stops code taken taken' fault stops)

-- the line was written, and is to be handed on
pub TurnsAway-written : (code : Code) (taken mid taken' : Taken) (result : Result SessionEnd SessionFault) → WritesWhole taken mid (reply_line (reply.Refused code))
    → Finishes (Refused code) mid taken' result → TurnsAway code taken taken' result
TurnsAway-written code taken mid taken' (Ok end) writes finishes = (finishes.0, WritesAll-from (Wrote-line (reply.Refused code) (Wrote-none taken) writes) finishes.1)
TurnsAway-written code taken mid taken' (Err fault) writes finishes =
    subst (λ one. TurnsAway code taken taken' (Err one)) (sym finishes.0) (WritesLinesInPart-held [] (omega arith) (Wrote-line (reply.Refused code) (Wrote-none taken) writes) finishes.1)
