use Rattle.std.proofs.Common.{◌≡◌, ◌-◌, ◌++◌, drop, vec_len}
use Rattle.std.specs.Io.KnownBytes.{Keeps}
use Rattle.line_protocol.proofs.buffered_sink.Buffered.hand_on.Given as goal

abbrev pub invariant-loop-self : goal.invariant-loop-self
invariant-loop-self g l = record {
  taken : (g.W.Sink.seen l.self.sink).bytes ++ drop l.self.start l.self.bytes.items ≡ (g.W.Sink.seen l.fn.self.sink).bytes ++ drop l.fn.self.start l.fn.self.bytes.items;
  failures : (g.W.Sink.seen l.self.sink).failures ≡ (g.W.Sink.seen l.fn.self.sink).failures;
  interruptions : (g.W.Sink.seen l.self.sink).interruptions ≡ (g.W.Sink.seen l.fn.self.sink).interruptions;
  began : Keeps (g.W.Sink.seen l.fn.self.sink).began (g.W.Sink.seen l.self.sink).began;
  log : l.self.log.calls ≡ l.fn.self.log.calls;
}

abbrev pub decreases-loop-self : goal.decreases-loop-self
decreases-loop-self g l = vec_len l.self.bytes - l.self.start
