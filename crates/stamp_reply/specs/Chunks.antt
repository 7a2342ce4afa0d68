-- What a writer of chunks does with a text.
use Rattle.std.specs.Prelude.{◌≡◌, ◌<◌, ◌++◌, Ok, Err}
use Rattle.trace_types.specs.text.Name.{Text}
use Rattle.line_protocol.specs.Sink.{Taken}
use Rattle.line_protocol.specs.Writing.{Gathers, TriesToWrite, WritesFront}
use Rattle.stamp_reply.specs.declared.chunk_writer.ChunkWriter.{ChunkWriter}

module _ {W : Type 0} where
  -- With what patience there was, the text was written or is held behind what was held.
  pub record GathersOn (took : W → Taken) (old new : ChunkWriter W) (text : Text) : Type 0 where
    pub writer : new.writer.ghost_name ≡ old.writer.ghost_name
    pub gathered : 0 < old.patience → Gathers (took old.writer.now).bytes (took new.writer.now).bytes old.chunk new.chunk text
    pub tries : 0 < old.patience → TriesToWrite {A = Unit {0}} {E = Unit {0}} (took old.writer.now) (took new.writer.now) old.patience new.patience (Ok tt)

  -- With what patience there was, a front of what was held and the text was written, and then a fault came.
  pub record StopsGathering (took : W → Taken) (old new : ChunkWriter W) (text : Text) : Type 0 where
    pub writer : new.writer.ghost_name ≡ old.writer.ghost_name
    pub front : 0 < old.patience → WritesFront (took old.writer.now).bytes (took new.writer.now).bytes (old.chunk ++ text)
    pub tries : 0 < old.patience → TriesToWrite {A = Unit {0}} {E = Unit {0}} (took old.writer.now) (took new.writer.now) old.patience new.patience (Err tt)
