use Rattle.std.proofs.Common.{◌^◌, ◌≤◌}
use Rattle.line_protocol.specs.Held.{fresh_held}
use Rattle.line_protocol.specs.LineReading.{Reads, work_left}
use Rattle.trace_world.proofs.TakingIn.{Takes}
use Rattle.trace_world.proofs.export_replay.take_in.Given as goal

abbrev pub invariant-loop-lines : goal.invariant-loop-lines
invariant-loop-lines g l = record {
  takes : Takes (g.R.Source.seen l.fn.reader).bytes (g.R.Source.seen l.reader).bytes l.fn.world l.lines l.world;
  reads : Reads (g.R.Source.seen l.fn.reader) (g.R.Source.seen l.reader) fresh_held l.lines 0;
  most : l.lines.reads ≤ 2 ^ 30;
}

abbrev pub decreases-loop-lines : goal.decreases-loop-lines
decreases-loop-lines g l = work_left l.lines
