-- What goes out of a session.
use Rattle.std.specs.Prelude.{◌≡◌, ℕ, ◌⊎◌, Result, IsErrOf}
use Rattle.line_protocol.specs.Sink.{Taken}
use Rattle.trace_session.specs.declared.session_end.SessionFault.{SessionFault}
use Rattle.trace_session.specs.declared.session_end.SessionFault.TheVariants.{Gate}
use Rattle.trace_session.specs.declared.output.Output.{Output}

module _ {W T G : Type 0} where
  -- the same writer, gate and number
  pub record IsSameOutput (old new : Output W T G) : Type 0 where
    pub writer : new.writer.ghost_name ≡ old.writer.ghost_name
    pub gate : new.gate.now ≡ old.gate.now
    pub number : new.number ≡ old.number

  -- Nothing was written, or the gate let out a line. The fault was the gate's only if the gate held a line back.
  pub record GoesThroughGate {A : Type 0} (took : W → Taken) (lets_out holds_back : G → ℕ → Type 0) (old new : Output W T G) (result : Result A SessionFault) : Type 0 where
    pub same : IsSameOutput old new
    pub let_out : ((took new.writer.now).bytes ≡ (took old.writer.now).bytes) ⊎ lets_out old.gate.now old.number
    pub gate : IsErrOf result Gate → holds_back old.gate.now old.number
