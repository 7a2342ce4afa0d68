use Rattle.std.proofs.Common.{◌≡◌, ◌+◌, refl, ap, arith, rules, Some, Err}
use Rattle.std.specs.List.{slice_get}
use Rattle.trace_export.proofs.ReadAgain.{read_all, read_next}
use Rattle.trace_export.proofs.WrittenRows.{IfErr-equal, breaks_header, breaks_next, row_at, wrote_all, wrote_header, wrote_next}
use Rattle.trace_export.proofs.exporting.export_rows.Goals as goal
use Rattle.trace_export.proofs.exporting.export_rows.Given.{Over}
use Rattle.trace_export.proofs.exporting.export_rows.Goals.{After-write_row}

-- the row that comes next
this_row : (g : Over) (c : After-write_row g) → slice_get c.args.rows.now c.loop-row.count ≡ Some c.row-item.result
this_row g c = row_at c.args.rows.now c.loop-row.row-index c.loop-row.count c.row-item.result c.loop-row.invariant.0 (search rules) c.row-item.is

pub returns-in_err-write_row-clause-fault : goal.returns-in_err-write_row-clause-fault
returns-in_err-write_row-clause-fault g c =
    let at = goal.at.returns-in_err-write_row-clause-fault g c in
    IfErr-equal _ _ _ c.from_residual-in_err-write_row.ensures.1
    (breaks_next {after = g.W.Sink.seen c.write_row.new.writer} c.in_err-write_row.field-0.0 (c.loop-row.count + 1) c.row-item.result (omega arith) c.loop-row.invariant.1 (this_row g at.After-write_row) (λ same. c.in_err-write_row.ensures.part (ap Err same)) (λ same. ap g.W.Sink.seen (c.in_err-write_row.ensures.unchanged (ap Err same))))

pub returns-in_err-write_header-clause-fault : goal.returns-in_err-write_header-clause-fault
returns-in_err-write_header-clause-fault g c =
    IfErr-equal _ _ _ c.from_residual.ensures.1
    (breaks_header {after = g.W.Sink.seen c.write_header.new.writer} c.in_err-write_header.field-0.0 c.args.header.now c.args.rows.now (g.T.StampTexts.texts c.args.stamps.now)
    (λ same. c.in_err-write_header.ensures.part (ap Err same)) (λ same. ap g.W.Sink.seen (c.in_err-write_header.ensures.unchanged (ap Err same))))

pub loop-row-init : goal.loop-row-init
loop-row-init g c = (refl, wrote_header c.args.header.now c.args.rows.now (g.T.StampTexts.texts c.args.stamps.now) c.in_ok-write_header.ensures.whole, tt)

pub loop-row-preserved : goal.loop-row-preserved
loop-row-preserved g c =
    let at = goal.at.loop-row-preserved g c in (
      omega (arith, c.loop-row.invariant.0),
      wrote_next (c.loop-row.count + 1) c.row-item.result (omega arith) c.loop-row.invariant.1 (this_row g at.After-write_row) c.in_ok-write_row.ensures.whole,
      read_next c.args.rows.now (g.T.StampTexts.texts c.args.stamps.now) c.loop-row.count (c.loop-row.count + 1) c.row-item.result (omega arith) (this_row g at.After-write_row)
          c.loop-row.invariant.2 c.in_ok-write_row.ensures.read,
    )

pub returns-clause-whole : goal.returns-clause-whole
returns-clause-whole g c = wrote_all c.loop-row.invariant.1 (omega (arith, c.loop-row-test.false, c.loop-row.invariant.0))

pub returns-clause-read : goal.returns-clause-read
returns-clause-read g c =
    read_all c.args.rows.now (g.T.StampTexts.texts c.args.stamps.now) c.loop-row.count (omega (arith, c.loop-row-test.false, c.loop-row.invariant.0)) c.loop-row.invariant.2
