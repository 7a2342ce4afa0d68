use Rattle.std.proofs.Common.{arith}
use Rattle.trace_export.proofs.Reached.{added-step}
use Rattle.trace_export.proofs.graph.add_events.Goals as goal

pub loop-event-preserved : goal.loop-event-preserved
loop-event-preserved c = record {
  len = omega (arith, c.add_bit.ensures.len, c.loop-event.invariant.len);
  added = λ place. added-step c.args.events.now c.loop-event.event-index place c.args.bits.now c.loop-event.bits c.add_bit.new.words c.loop-event-test.true (c.requires c.loop-event.event-index 0 c.loop-event-test.true).0 (c.loop-event.invariant.added place) (c.add_bit.ensures.has place);
}
