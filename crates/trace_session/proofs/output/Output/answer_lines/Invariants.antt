use Rattle.std.proofs.Common.{◌≡◌, ◌≤◌, ◌-◌, ℕ, IsTrue, None, Ok}
use Rattle.line_protocol.specs.LineReading.{Reads}
use Rattle.trace_session.proofs.AnsweredLines.{HasAnswered}
use Rattle.trace_session.specs.Asking.{most_requests}
use Rattle.trace_session.specs.Outputs.{GoesThroughGate}
use Rattle.trace_session.specs.State.{state_of}
use Rattle.trace_session.proofs.output.Output.answer_lines.Given as goal

abbrev pub invariant-loop-found : goal.invariant-loop-found
invariant-loop-found g l = record {
  same_source : l.lines.source.ghost_name ≡ l.fn.lines.source.ghost_name;
  through : GoesThroughGate {A = ℕ} g.W.Sink.seen g.G.Gate.lets_out g.G.Gate.holds_back l.fn.self l.self (Ok 0);
  so_far : HasAnswered g.L.Lent.does (state_of g.R.Source.seen g.W.Sink.seen l.fn.lines l.fn.self.writer.now) (state_of g.R.Source.seen g.W.Sink.seen l.lines l.self.writer.now) l.fn.lent l.lent l.requests;
  few : l.requests ≤ most_requests;
  reads : Reads (g.R.Source.seen l.fn.lines.source.now) (g.R.Source.seen l.lines.source.now) l.fn.lines.buffer l.lines.buffer 0;
  at_end : IsTrue l.fn.lines.buffer.is_ended → (l.lines.source.now ≡ l.fn.lines.source.now) × IsTrue l.lines.buffer.is_ended;
  open_start : l.fn.lines.fault ≡ None;
  open_now : l.lines.fault ≡ None;
  sound : g.L.Lent.is_sound l.fn.lent → g.L.Lent.is_sound l.lent;
  limits : (g.L.Lent.tenant_of l.lent).limits ≡ (g.L.Lent.tenant_of l.fn.lent).limits;
  log : g.L.Lent.log_of l.lent ≡ g.L.Lent.log_of l.fn.lent;
}

abbrev pub decreases-loop-found : goal.decreases-loop-found
decreases-loop-found g l = most_requests - l.requests
