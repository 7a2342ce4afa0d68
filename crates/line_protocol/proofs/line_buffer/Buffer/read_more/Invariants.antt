use Rattle.std.proofs.Common.{◌≡◌, ◌-◌, ◌≤◌, false}
use Rattle.line_protocol.specs.LineReading.{Reads}
use Rattle.line_protocol.specs.Ends.{Comes}
use Rattle.line_protocol.proofs.line_buffer.Buffer.read_more.Given as goal

abbrev pub invariant-loop-self : goal.invariant-loop-self
invariant-loop-self g l = record {
  comes : Comes (g.R.Source.seen l.fn.source).bytes (g.R.Source.seen l.source).bytes l.fn.self.left l.self.left;
  same : l.self.left ≡ l.fn.self.left;
  goes_on : l.self.is_ended ≡ false;
  more : l.fn.self.reads ≤ l.self.reads;
  reads : Reads (g.R.Source.seen l.fn.source) (g.R.Source.seen l.source) l.fn.self l.self 0;
}

abbrev pub decreases-loop-self : goal.decreases-loop-self
decreases-loop-self g l = l.self.bounds.reads - l.self.reads
