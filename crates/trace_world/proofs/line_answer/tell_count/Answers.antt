use Rattle.trace_types.specs.declared.request.Request.TheVariants as request
use Rattle.trace_types.specs.declared.reply.Reply.TheVariants as reply
use Rattle.trace_world.proofs.Answering.{tells}
use Rattle.trace_world.proofs.Standing.{StepsOne-stays}
use Rattle.trace_world.proofs.line_answer.tell_count.Goals as goal

pub returns : goal.returns
returns g c =
    let counted = c.counts.result in
    let told = reply.Count counted.0 counted.1 counted.2 in
    record {
      to = c.name.result.now;
      reply = told;
      named = c.name.ensures;
      does = StepsOne-stays c.args.world.now c.args.tenant c.ledger.result.now request.Count told c.ledger.ensures c.counts.ensures;
      tells = tells (g.W.Sink.seen c.args.writer.now) (g.W.Sink.seen c.write_count.new.writer) c.name.result.now told _ _ c.write_count.result (c.count_answered.ensures.count counted.0 counted.1 counted.2) c.write_count.ensures;
    }
