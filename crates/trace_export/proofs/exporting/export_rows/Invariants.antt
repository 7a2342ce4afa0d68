use Rattle.std.proofs.Common.{◌≡◌, take}
use Rattle.trace_export.specs.Export.{AreReadAgain}
use Rattle.trace_export.proofs.WrittenRows.{WroteRows}
use Rattle.trace_export.proofs.exporting.export_rows.Given as goal

abbrev pub invariant-loop-row : goal.invariant-loop-row
invariant-loop-row g l =
    (l.count ≡ l.row-index)
    × WroteRows (g.W.Sink.seen l.fn.writer) (g.W.Sink.seen l.writer) l.header l.rows (g.T.StampTexts.texts l.stamps) l.count
    × AreReadAgain 0 (take l.count l.rows) (g.T.StampTexts.texts l.stamps)
