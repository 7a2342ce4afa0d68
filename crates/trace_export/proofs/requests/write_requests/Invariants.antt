use Rattle.trace_export.specs.Loading.{request_lines}
use Rattle.trace_export.proofs.WrittenTexts.{WroteFirst}
use Rattle.trace_export.proofs.requests.write_requests.Given as goal

abbrev pub invariant-loop-row : goal.invariant-loop-row
invariant-loop-row g l = WroteFirst (g.W.Sink.seen l.fn.writer) (g.W.Sink.seen l.writer) (request_lines l.tenant l.rows) l.row-index
