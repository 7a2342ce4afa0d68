use Rattle.trace_world.proofs.Answering.{tells}
use Rattle.trace_world.proofs.line_answer.tell.Goals as goal

pub returns : goal.returns
returns g c = tells (g.W.Sink.seen c.args.writer.now) (g.W.Sink.seen c.write_answer.new.writer) c.args.to.now c.args.reply.now _ _ c.write_answer.result c.count.ensures c.write_answer.ensures
