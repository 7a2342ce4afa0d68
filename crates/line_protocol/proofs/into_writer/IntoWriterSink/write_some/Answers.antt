use Rattle.line_protocol.proofs.CallLemmas.{WritesOnce-noted}
use Rattle.line_protocol.proofs.into_writer.IntoWriterSink.write_some.Goals as goal

pub returns-clause-writes : goal.returns-clause-writes
returns-clause-writes g c =
    WritesOnce-noted (g.W.Write.contents c.args.self.now.writer) (g.W.Write.contents c.write.new.self) c.args.self.now.log.calls c.note.new.self.calls
    c.write.result c.stopped_count-outcome.result c.args.bytes.now c.count_ending.result c.unwrap_or-count.result
    c.write.ensures.bound c.write.ensures.bytes c.stopped_count-outcome.ensures c.count_ending.ensures c.unwrap_or-count.ensures c.note.ensures
