use Rattle.std.proofs.Common.{arith, length, ap}
use Rattle.trace_export.proofs.WrittenRows.{numbers_all}
use Rattle.trace_export.proofs.exporting.preds_json.Goals as goal

pub returns : goal.returns
returns c =
    numbers_all c.loop-event.items.items c.args.preds.now c.loop-event.event-index c.loop-event.invariant
    (omega (arith, c.loop-event-test.false, ap length c.as_slice-event-items.ensures.events))
