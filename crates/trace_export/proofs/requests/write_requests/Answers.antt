use Rattle.std.proofs.Common.{◌≡◌, ◌+◌, suc, ap, arith, rules, Some, Err, subst, sym}
use Rattle.std.specs.List.{slice_get}
use Rattle.trace_types.specs.declared.row.Row.{Row}
use Rattle.trace_export.specs.Listing.{FitsKind}
use Rattle.trace_export.specs.Loading.{request_line, request_lines}
use Rattle.trace_export.proofs.WrittenRequests.{length-request_lines, line_at, some_line}
use Rattle.trace_export.proofs.WrittenRows.{IfErr-equal}
use Rattle.trace_export.proofs.WrittenTexts.{WroteFirst, breaks_text, wrote_all_texts, wrote_no_text, wrote_text}
use Rattle.trace_export.proofs.requests.write_requests.Goals as goal
use Rattle.trace_export.proofs.requests.write_requests.Given.{Over}
use Rattle.trace_export.proofs.requests.write_requests.Goals.{After-write_request}

-- the line that comes next
this_line : (g : Over) (c : After-write_request g) → slice_get (request_lines c.args.tenant.now c.args.rows.now) c.loop-row.row-index ≡ Some (request_line c.args.tenant.now c.row-item.result)
this_line g c = line_at c.args.tenant.now c.args.rows.now c.loop-row.row-index c.row-item.result (search rules) c.row-item.is

pub write_request-requires : goal.write_request-requires
write_request-requires g c = subst (λ (row : Row). FitsKind row.kind row.name) (sym c.row-item.is) (c.requires c.loop-row.row-index c.row-item.result (search rules))

pub loop-row-init : goal.loop-row-init
loop-row-init g c = wrote_no_text (g.W.Sink.seen c.args.writer.now) (request_lines c.args.tenant.now c.args.rows.now)

pub loop-row-preserved : goal.loop-row-preserved
loop-row-preserved g c =
    let at = goal.at.loop-row-preserved g c in
    let next : suc c.loop-row.row-index ≡ c.loop-row.row-index + 1 = omega arith in
    subst (λ n. WroteFirst (g.W.Sink.seen c.args.writer.now) (g.W.Sink.seen c.write_request.new.writer) (request_lines c.args.tenant.now c.args.rows.now) n) next
    (wrote_text (request_line c.args.tenant.now c.row-item.result) (some_line c.args.tenant.now c.row-item.result) c.loop-row.invariant (this_line g at.After-write_request) c.in_ok-write_request.ensures.whole)

pub returns-in_err-write_request-clause-fault : goal.returns-in_err-write_request-clause-fault
returns-in_err-write_request-clause-fault g c =
    let at = goal.at.returns-in_err-write_request-clause-fault g c in
    IfErr-equal _ _ _ c.from_residual.ensures.1
    (breaks_text {after = g.W.Sink.seen c.write_request.new.writer} c.in_err-write_request.field-0.0 (request_line c.args.tenant.now c.row-item.result) (some_line c.args.tenant.now c.row-item.result) c.loop-row.invariant
    (this_line g at.After-write_request) (λ same. c.in_err-write_request.ensures.part (ap Err same)) (λ same. ap g.W.Sink.seen (c.in_err-write_request.ensures.unchanged (ap Err same))))

pub returns-clause-whole : goal.returns-clause-whole
returns-clause-whole g c =
    wrote_all_texts c.loop-row.invariant
    (omega (arith, length-request_lines c.args.tenant.now c.args.rows.now, c.loop-row-test.false))
