use Rattle.std.proofs.Common.{[], refl}
use Rattle.stamp_reply.proofs.ChunkLines.{gathers-then, writes_through}
use Rattle.stamp_reply.proofs.chunk_writer.ChunkWriterTakeBytes.take_all.Goals as goal

pub returns : goal.returns
returns g c =
    let held = c.in_ok-write_held.ensures in
    gathers-then g.W.Sink.seen c.args.self.now c.write_held.new.self _ [] c.args.bytes.now c.ok.result held.gathers
    (writes_through g.W.Sink.seen c.write_held.new.self _ c.args.bytes.now c.write_piece.result c.ok.result c.ok.ensures.value refl held.all held.all c.write_piece.ensures.written c.write_piece.ensures.tries)
