use Rattle.std.proofs.Common.{◌≡◌, ◌-◌, IsTrue}
use Rattle.line_protocol.specs.LineReading.{Reads, ReadsForLine}
use Rattle.line_protocol.specs.Ends.{Comes}
use Rattle.line_protocol.proofs.line_buffer.Buffer.find_end.Given as goal

abbrev pub invariant-loop-self : goal.invariant-loop-self
invariant-loop-self g l = record {
  comes : Comes (g.R.Source.seen l.fn.source).bytes (g.R.Source.seen l.source).bytes l.fn.self.left l.self.left;
  reads : Reads (g.R.Source.seen l.fn.source) (g.R.Source.seen l.source) l.fn.self l.self 0;
  last : ReadsForLine g.R.Source.seen l.fn.source l.source l.fn.self;
  at_end : IsTrue l.fn.self.is_ended → (l.source ≡ l.fn.source) × (l.self ≡ l.fn.self);
}

abbrev pub decreases-loop-self : goal.decreases-loop-self
decreases-loop-self g l = l.self.bounds.reads - l.self.reads
