use Rattle.std.proofs.Common.{◌≡◌, ◌+◌}
use Rattle.line_protocol.proofs.PatientTexts.{OnlyFlushWaits}
use Rattle.line_protocol.proofs.reply.flush.Given as goal

abbrev pub invariant-loop : goal.invariant-loop
invariant-loop g l = record {
  taken : (g.W.Sink.seen l.writer).bytes ≡ (g.W.Sink.seen l.fn.writer).bytes;
  failures : (g.W.Sink.seen l.writer).failures ≡ (g.W.Sink.seen l.fn.writer).failures;
  interruptions : (g.W.Sink.seen l.writer).interruptions ≡ (g.W.Sink.seen l.fn.writer).interruptions + l.counter;
  waits : OnlyFlushWaits (g.W.Sink.seen l.fn.writer) (g.W.Sink.seen l.writer) l.counter;
}
