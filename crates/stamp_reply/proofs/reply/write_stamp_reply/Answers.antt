use Rattle.std.proofs.Common.{◌++◌, ◌∙◌, Ok, Err, codes, subst, sym}
use Rattle.trace_types.specs.text.StampText.{stamp_text}
use Rattle.line_protocol.specs.Writing.{Writes}
use Rattle.line_protocol.specs.declared.reply.WriteFault.{WriteFault}
use Rattle.stamp_reply.proofs.ChunkLines.{Writes-line, Writes-stopped}
use Rattle.stamp_reply.proofs.reply.write_stamp_reply.Goals as goal

pub returns-in-Some : goal.returns-in-Some
returns-in-Some g c =
    let text = (codes "200 " ++ stamp_text c.args.id.now c.args.tree.now) ++ codes "\n" in
    let line = c.new-line.ensures in
    let spelled = c.in-Some.ensures in
    subst (λ last. Writes {A = Unit {0}} {E = WriteFault} (g.W.Sink.seen c.args.writer.now) (g.W.Sink.seen last) (Ok tt) text)
    (sym (c.writer-1.given.1 (sym (c.spell_reply.ensures.same_writer ∙ line.same_writer))))
    (subst (λ first. Writes {A = Unit {0}} {E = WriteFault} (g.W.Sink.seen first) (g.W.Sink.seen c.spell_reply.new.line.writer.now) (Ok tt) text) line.writer
    (Writes-line g.W.Sink.seen c.new-line.result c.spell_reply.new.line text line.patience line.none spelled.gathers spelled.all spelled.no_wait))

pub returns-in-None : goal.returns-in-None
returns-in-None g c =
    let text = (codes "200 " ++ stamp_text c.args.id.now c.args.tree.now) ++ codes "\n" in
    let line = c.new-line.ensures in
    subst (λ last. Writes {A = Unit {0}} {E = WriteFault} (g.W.Sink.seen c.args.writer.now) (g.W.Sink.seen last) (Err (record {})) text)
    (sym (c.writer-1.given.1 (sym (c.spell_reply.ensures.same_writer ∙ line.same_writer))))
    (subst (λ first. Writes {A = Unit {0}} {E = WriteFault} (g.W.Sink.seen first) (g.W.Sink.seen c.spell_reply.new.line.writer.now) (Err (record {})) text) line.writer
    (Writes-stopped g.W.Sink.seen c.new-line.result c.spell_reply.new.line text (record {}) line.patience line.none c.in-None.ensures.gathers))
