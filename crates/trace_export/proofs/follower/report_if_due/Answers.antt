use Rattle.std.proofs.Common.{ap, arith, length, ◌+◌}
use Rattle.trace_export.proofs.DueLines.{is_followed_by}
use Rattle.trace_export.proofs.follower.report_if_due.Goals as goal

pub returns-in-Ok-clause-due : goal.returns-in-Ok-clause-due
returns-in-Ok-clause-due g c = λ is.
    is_followed_by c.args.ledger c.in-Ok.prepared.tenant c.commit_if_due.result.0 c.args.limits.now c.in-Some.report c.in-Ok.prepared.row c.args.line.now (length c.rows.result.now + 1)
    c.in-Ok.ensures.same c.requires.limits c.events-number.ensures.ranges c.in-Some.ensures c.in-Ok.ensures.accepted c.requires.short (omega (arith, ap length c.rows.ensures.rows))
    (c.commit_if_due.ensures.due is) (c.commit_if_due.ensures.committed is) (c.commit_if_due.ensures.legal is)
