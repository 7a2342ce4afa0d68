use Rattle.std.proofs.Common.{◌^◌, ◌≤◌}
use Rattle.line_protocol.specs.Held.{fresh_within}
use Rattle.line_protocol.specs.LineReading.{Reads, work_left}
use Rattle.trace_export.specs.Checked.{IsKept, header_in, placing_in}
use Rattle.trace_export.specs.ReadTo.{StopsAtLine}
use Rattle.trace_export.proofs.Judging.{FoundRight, export_bounds, line_count}
use Rattle.trace_export.proofs.checking.take_in.Given as goal

abbrev pub invariant-loop-checked : goal.invariant-loop-checked
invariant-loop-checked g l = record {
  found : FoundRight (g.R.Source.seen l.fn.reader).bytes (g.R.Source.seen l.reader).bytes l.lines (header_in l.checked) (placing_in l.checked);
  kept : IsKept l.checked;
  reads : Reads (g.R.Source.seen l.fn.reader) (g.R.Source.seen l.reader) (fresh_within export_bounds) l.lines 0;
  stops : StopsAtLine g.R.Source.seen (line_count (header_in l.checked) (placing_in l.checked)) l.fn.reader l.reader;
  most : l.lines.reads ≤ 2 ^ 30;
}

abbrev pub decreases-loop-checked : goal.decreases-loop-checked
decreases-loop-checked g l = work_left l.lines
