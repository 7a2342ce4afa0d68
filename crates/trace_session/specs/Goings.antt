-- How a session went.
use Rattle.std.specs.Prelude.{◌≡◌, ℕ, IsTrue, ◌⊎◌, Result, IsErrOf}
use Rattle.line_protocol.specs.Held.{Held}
use Rattle.line_protocol.specs.LineReading.{Reads}
use Rattle.line_protocol.specs.Sink.{Taken}
use Rattle.line_protocol.specs.Source.{Given}
use Rattle.line_protocol.specs.declared.line_reader.LineReader.{LineReader}
use Rattle.trace_session.specs.Faults.{failed_reads_in, read_fault_in}
use Rattle.trace_session.specs.Outputs.{IsSameOutput}
use Rattle.trace_session.specs.State.{State, state_of}
use Rattle.trace_session.specs.declared.session_end.SessionEnd.{SessionEnd}
use Rattle.trace_session.specs.declared.session_end.SessionFault.{SessionFault}
use Rattle.trace_session.specs.declared.session_end.SessionFault.TheVariants.{Gate}
use Rattle.trace_session.specs.declared.output.Output.{Output}

-- What a session did, and how it read and wrote, whatever it did. A failed read is its fault, and no other fault is one of
-- reading. It asked its source no more once that had told the end. It wrote nothing, or its gate let out a line. It ended in
-- the fault of its gate only if the gate held a line back.
pub record Goes {R W : Type 0} (seen : R → Given) (took : W → Taken) (lets_out holds_back : Type 0) (Did : State → State → Result SessionEnd SessionFault → Type 0) (lines lines' : LineReader R Held) (writer writer' : W) (result : Result SessionEnd SessionFault) : Type 0 where
  pub did : Did (state_of seen took lines writer) (state_of seen took lines' writer') result
  pub reads : Reads (seen lines.source.now) (seen lines'.source.now) lines.buffer lines'.buffer (failed_reads_in result)
  pub fault : lines'.fault ≡ read_fault_in result
  pub at_end : IsTrue lines.buffer.is_ended → (lines'.source.now ≡ lines.source.now) × IsTrue lines'.buffer.is_ended
  pub let_out : ((took writer').bytes ≡ (took writer).bytes) ⊎ lets_out
  pub gate : IsErrOf result Gate → holds_back

-- The same of a session with this output, which has the same source and the same writer afterwards.
pub record GoesOn {R W T G : Type 0} (seen : R → Given) (took : W → Taken) (lets_out holds_back : G → ℕ → Type 0) (Did : State → State → Result SessionEnd SessionFault → Type 0) (lines lines' : LineReader R Held) (output output' : Output W T G) (result : Result SessionEnd SessionFault) : Type 0 where
  pub same_source : lines'.source.ghost_name ≡ lines.source.ghost_name
  pub same : IsSameOutput output output'
  pub goes : Goes seen took (lets_out output.gate.now output.number) (holds_back output.gate.now output.number) Did lines lines' output.writer.now output'.writer.now result
