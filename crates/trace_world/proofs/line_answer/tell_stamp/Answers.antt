use Rattle.std.proofs.Common.{◌∙◌, ap, sym, Some}
use Rattle.trace_types.specs.text.StampText.{stamp_text}
use Rattle.trace_types.specs.declared.code.Code.TheVariants.{NoEvent}
use Rattle.trace_types.specs.declared.request.Request.TheVariants as request
use Rattle.trace_types.specs.declared.reply.Reply.TheVariants as reply
use Rattle.trace_world.proofs.Answering.{tells}
use Rattle.trace_world.proofs.Standing.{StepsOne-stays}
use Rattle.trace_world.proofs.line_answer.tell_stamp.Goals as goal

pub returns-in-Some : goal.returns-in-Some
returns-in-Some g c =
    let text = stamp_text c.id_value-id.result.now c.tree_value-tree.result.now in
    let told = reply.Stamp text in
    record {
      to = c.name.result.now;
      reply = told;
      named = c.name.ensures;
      does = StepsOne-stays c.args.world.now c.args.tenant c.ledger.result.now (request.Stamp c.args.event) told c.ledger.ensures (rw (c.id_value-id.ensures, c.tree_value-tree.ensures) (rw c.in-Some.is at c.stamp_parts.ensures));
      tells = tells (g.W.Sink.seen c.args.writer.now) (g.W.Sink.seen c.write_stamp_answer.new.writer) c.name.result.now told _ _ c.write_stamp_answer.result (c.count_answered.ensures.stamp text) c.write_stamp_answer.ensures;
    }

pub returns-in-None : goal.returns-in-None
returns-in-None g c = record {
  to = c.as_bytes.result.now;
  reply = reply.Refused NoEvent;
  named = c.name-in-None.ensures ∙ ap Some (sym c.as_bytes.ensures.text);
  does = StepsOne-stays c.args.world.now c.args.tenant c.ledger.result.now (request.Stamp c.args.event) (reply.Refused NoEvent) c.ledger.ensures (rw c.in-None.is at c.stamp_parts.ensures);
  tells = c.refuse.ensures;
}
