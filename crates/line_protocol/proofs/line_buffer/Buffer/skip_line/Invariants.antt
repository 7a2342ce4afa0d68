use Rattle.std.proofs.Common.{◌-◌, ◌≤◌, IsTrue}
use Rattle.line_protocol.specs.LineReading.{Reads}
use Rattle.line_protocol.specs.Ends.{Skipped}
use Rattle.line_protocol.specs.Source.{LastRead}
use Rattle.line_protocol.proofs.line_buffer.Buffer.skip_line.Given as goal

abbrev pub invariant-loop-self : goal.invariant-loop-self
invariant-loop-self g l = record {
  skipped : Skipped (g.R.Source.seen l.fn.source).bytes (g.R.Source.seen l.source).bytes;
  last : IsTrue l.self.is_ended → LastRead g.R.Source.seen l.source (Skipped (g.R.Source.seen l.fn.source).bytes);
  more : l.fn.self.reads ≤ l.self.reads;
  reads : Reads (g.R.Source.seen l.fn.source) (g.R.Source.seen l.source) l.fn.self l.self 0;
}

abbrev pub decreases-loop-self : goal.decreases-loop-self
decreases-loop-self g l = l.self.bounds.reads - l.self.reads
