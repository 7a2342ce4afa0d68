use Rattle.std.proofs.Common.{◌≡◌, ◌+◌, ◌^◌, ◌≤◌}
use Rattle.std.specs.Io.KnownBytes.{Keeps}
use Rattle.line_protocol.specs.Held.{fresh_held}
use Rattle.line_protocol.specs.LineReading.{Reads, work_left}
use Rattle.trace_world.proofs.ReplayedLines.{HasReplayed}
use Rattle.trace_world.proofs.replaying.replay.Given as goal

abbrev pub invariant-loop-found : goal.invariant-loop-found
invariant-loop-found g l = record {
  so_far : HasReplayed (g.R.Source.seen l.fn.reader).bytes (g.R.Source.seen l.reader).bytes (g.W.Sink.seen l.fn.writer).bytes (g.W.Sink.seen l.writer).bytes (g.W.Sink.seen l.fn.writer).calls (g.W.Sink.seen l.writer).calls l.fn.world l.lines l.counts l.world;
  reads : Reads (g.R.Source.seen l.fn.reader) (g.R.Source.seen l.reader) fresh_held l.lines 0;
  most : l.lines.reads ≤ 2 ^ 30;
  write_failures : (g.W.Sink.seen l.writer).failures ≡ (g.W.Sink.seen l.fn.writer).failures;
  began : Keeps (g.W.Sink.seen l.fn.writer).began (g.W.Sink.seen l.writer).began;
  interruptions : (g.W.Sink.seen l.fn.writer).interruptions ≤ (g.W.Sink.seen l.writer).interruptions;
  room : l.counts.lines + work_left l.lines ≤ 2 ^ 47;
  accepted : l.counts.accepted ≤ l.counts.lines;
  answered : l.counts.answered ≤ l.counts.lines;
  refused : l.counts.refused ≤ l.counts.lines;
}

abbrev pub decreases-loop-found : goal.decreases-loop-found
decreases-loop-found g l = work_left l.lines
