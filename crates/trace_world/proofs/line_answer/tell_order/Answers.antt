use Rattle.std.proofs.Common.{◌∙◌, ap, sym, Some}
use Rattle.trace_types.specs.declared.request.Request.TheVariants as request
use Rattle.trace_types.specs.declared.reply.Reply.TheVariants as reply
use Rattle.trace_world.proofs.Answering.{tells}
use Rattle.trace_world.proofs.Standing.{StepsOne-stays}
use Rattle.trace_world.proofs.line_answer.tell_order.Goals as goal

pub returns-in-Ok : goal.returns-in-Ok
returns-in-Ok g c =
    let told = reply.Ordering c.in-Ok.order in
    record {
      to = c.name.result.now;
      reply = told;
      named = c.name.ensures;
      does = StepsOne-stays c.args.world.now c.args.tenant c.ledger.result.now (request.Order c.args.events.0 c.args.events.1) told c.ledger.ensures (rw c.in-Ok.is at c.order.ensures);
      tells = tells (g.W.Sink.seen c.args.writer.now) (g.W.Sink.seen c.write_order.new.writer) c.name.result.now told _ _ c.write_order.result (c.count_answered.ensures.order c.in-Ok.order) c.write_order.ensures;
    }

pub returns-in-Err : goal.returns-in-Err
returns-in-Err g c = record {
  to = c.as_bytes.result.now;
  reply = reply.Refused c.in-Err.code;
  named = c.name-in-Err.ensures ∙ ap Some (sym c.as_bytes.ensures.text);
  does = StepsOne-stays c.args.world.now c.args.tenant c.ledger.result.now (request.Order c.args.events.0 c.args.events.1) (reply.Refused c.in-Err.code) c.ledger.ensures (rw c.in-Err.is at c.order.ensures);
  tells = c.refuse.ensures;
}
