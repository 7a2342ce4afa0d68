use Rattle.std.proofs.Common.{◌++◌, codes}
use Rattle.stamp_codec.proofs.Spelled.{on_none}
use Rattle.trace_types.specs.text.StampText.{stamp_text}
use Rattle.stamp_reply.specs.Chunking.{GathersOn-both, StopsGathering-front, StopsGathering-others}
use Rattle.stamp_reply.proofs.ChunkLines.{gathers-then, same_writer}
use Rattle.stamp_reply.proofs.reply.spell_reply.Goals as goal

pub returns-in_err-take_all-clause-gathers : goal.returns-in_err-take_all-clause-gathers
returns-in_err-take_all-clause-gathers g c =
    let text = stamp_text c.args.id.now c.args.tree.now in
    on_none c.from_residual.result _ _ c.from_residual.ensures (StopsGathering-front (codes "200 " ++ text) (codes "\n") (StopsGathering-front (codes "200 ") text c.in_err-take_all.ensures))

pub returns-in_err-take_all-clause-same_writer : goal.returns-in_err-take_all-clause-same_writer
returns-in_err-take_all-clause-same_writer g c = c.in_err-take_all.ensures.writer

pub returns-in_err-spell_parts-clause-gathers : goal.returns-in_err-spell_parts-clause-gathers
returns-in_err-spell_parts-clause-gathers g c =
    let text = stamp_text c.args.id.now c.args.tree.now in
    on_none c.from_residual-in_err-spell_parts.result _ _ c.from_residual-in_err-spell_parts.ensures
    (StopsGathering-front (codes "200 " ++ text) (codes "\n") (StopsGathering-others (codes "200 ") text c.in_ok-take_all.ensures c.in_err-spell_parts.ensures))

pub returns-in_err-spell_parts-clause-same_writer : goal.returns-in_err-spell_parts-clause-same_writer
returns-in_err-spell_parts-clause-same_writer g c =
    (StopsGathering-others (codes "200 ") (stamp_text c.args.id.now c.args.tree.now) c.in_ok-take_all.ensures c.in_err-spell_parts.ensures).writer

pub returns-clause-gathers : goal.returns-clause-gathers
returns-clause-gathers g c =
    let text = stamp_text c.args.id.now c.args.tree.now in
    gathers-then g.W.Sink.seen c.args.line.now c.spell_parts.new.taker c.end_with.new.self (codes "200 " ++ text) (codes "\n") c.end_with.result
    (GathersOn-both (codes "200 ") text c.in_ok-take_all.ensures c.in_ok-spell_parts.ensures) c.end_with.ensures.gathers

pub returns-clause-same_writer : goal.returns-clause-same_writer
returns-clause-same_writer g c = same_writer g.W.Sink.seen c.args.line.now c.end_with.new.self _ c.end_with.result (returns-clause-gathers g c)
