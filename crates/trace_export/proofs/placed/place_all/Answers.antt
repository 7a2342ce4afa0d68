use Rattle.std.proofs.Common.{◌<◌, ◌≤◌, ◌∙◌, length, ap, arith}
use Rattle.trace_types.specs.tenant.Rows.{history_of}
use Rattle.trace_export.specs.Following.{placing_of}
use Rattle.trace_export.proofs.ListedRows.{all_listed, counted, one_more}
use Rattle.trace_export.proofs.placed.place_all.Goals as goal

pub loop-place-preserved : goal.loop-place-preserved
loop-place-preserved c =
    let rows = c.args.ledger.now.rows in
    let within : c.loop-place.place < length (placing_of (history_of rows)) = omega (arith, c.loop-place-test.true, ap length c.rows-place-end.ensures.rows, counted rows) in
    one_more (placing_of (history_of rows)) c.loop-place.placed.items c.push.new.self.items c.loop-place.place c.in_ok-next.next within c.loop-place.invariant c.in_ok-push.ensures.items c.in_ok-next.ensures

pub returns : goal.returns
returns c =
    let rows = c.args.ledger.now.rows in
    let whole : length rows ≤ c.loop-place.place = omega (arith, c.loop-place-test.false, ap length c.rows-place-end.ensures.rows) in
    c.loop-place.invariant ∙ all_listed rows c.loop-place.place whole
