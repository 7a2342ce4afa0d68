use Rattle.std.proofs.Common.{◌^◌, ◌≤◌}
use Rattle.line_protocol.specs.Held.{fresh_within}
use Rattle.line_protocol.specs.LineReading.{Reads, work_left}
use Rattle.trace_export.specs.ReadTo.{StopsAtLine}
use Rattle.trace_export.proofs.Judging.{export_bounds}
use Rattle.trace_export.proofs.LoadedLines.{FoundLoaded, lines_loaded}
use Rattle.trace_export.proofs.loading.take_in.Given as goal

abbrev pub invariant-loop-lines : goal.invariant-loop-lines
invariant-loop-lines g l = record {
  so_far : FoundLoaded (g.R.Source.seen l.fn.reader).bytes (g.R.Source.seen l.reader).bytes l.lines l.follower.header l.follower.ledger;
  reads : Reads (g.R.Source.seen l.fn.reader) (g.R.Source.seen l.reader) (fresh_within export_bounds) l.lines 0;
  stops : StopsAtLine g.R.Source.seen (lines_loaded l.follower.header l.follower.ledger) l.fn.reader l.reader;
  most : l.lines.reads ≤ 2 ^ 30;
}

abbrev pub decreases-loop-lines : goal.decreases-loop-lines
decreases-loop-lines g l = work_left l.lines
