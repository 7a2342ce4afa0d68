-- Texts that a writer of chunks takes one behind the other.
use Rattle.std.proofs.Common.{◌<◌, ◌++◌, ◌∙◌}
use Rattle.trace_types.specs.text.Name.{Text}
use Rattle.line_protocol.specs.Sink.{Taken}
use Rattle.line_protocol.proofs.GatherLemmas.{Gathers-more, Gathers-front, WritesFront-held}
use Rattle.line_protocol.proofs.PatienceLemmas.{TriesToWrite-then}
use Rattle.stamp_reply.specs.Chunks.{GathersOn, StopsGathering}
use Rattle.stamp_reply.specs.declared.chunk_writer.ChunkWriter.{ChunkWriter}

module _ {W : Type 0} {took : W → Taken} where
  -- what was taken leaves patience
  patience_left : {old new : ChunkWriter W} {text : Text} → GathersOn took old new text → 0 < old.patience → 0 < new.patience
  patience_left gathers some = (gathers.tries some).spent.3

  pub GathersOn-both : {before between after : ChunkWriter W} (first others : Text) → GathersOn took before between first → GathersOn took between after others → GathersOn took before after (first ++ others)
  GathersOn-both first others taken more = record {
    writer = more.writer ∙ taken.writer;
    gathered = λ some. Gathers-more first others (taken.gathered some) (more.gathered (patience_left taken some));
    tries = λ some. TriesToWrite-then (taken.tries some) (more.tries (patience_left taken some));
  }

  pub StopsGathering-front : {before after : ChunkWriter W} (first others : Text) → StopsGathering took before after first → StopsGathering took before after (first ++ others)
  StopsGathering-front {before = before} first others stops = record {
    writer = stops.writer;
    front = λ some. WritesFront-held before.chunk first others (stops.front some);
    tries = stops.tries;
  }

  pub StopsGathering-others : {before between after : ChunkWriter W} (first others : Text) → GathersOn took before between first → StopsGathering took between after others → StopsGathering took before after (first ++ others)
  StopsGathering-others first others taken stops = record {
    writer = stops.writer ∙ taken.writer;
    front = λ some. Gathers-front first others (taken.gathered some) (stops.front (patience_left taken some));
    tries = λ some. TriesToWrite-then (taken.tries some) (stops.tries (patience_left taken some));
  }
