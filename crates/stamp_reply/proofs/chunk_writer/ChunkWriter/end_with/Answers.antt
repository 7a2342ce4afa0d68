use Rattle.std.proofs.Common.{[], ◌∷◌}
use Rattle.stamp_reply.proofs.ChunkLines.{gathers-then}
use Rattle.stamp_reply.proofs.chunk_writer.ChunkWriter.end_with.Goals as goal

pub returns-clause-gathers : goal.returns-clause-gathers
returns-clause-gathers g c =
    gathers-then g.W.Sink.seen c.args.self.now c.hold.new.self c.write_held.new.self (c.args.byte ∷ []) [] c.write_held.result c.in_ok-hold.ensures.gathers c.write_held.ensures.gathers
