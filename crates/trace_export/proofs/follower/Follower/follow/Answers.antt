use Rattle.std.proofs.Common.{refl}
use Rattle.trace_export.proofs.Followed.{event_made}
use Rattle.trace_export.proofs.follower.Follower.follow.Goals as goal

pub returns-clause-due : goal.returns-clause-due
returns-clause-due g c = λ is.
    let followed = c.report_if_due-ledger.ensures.due is in
    event_made c.args.self (record { header = c.args.self.header; ledger = c.report_if_due-ledger.result.0 }) c.args.line.now
    (record { row = followed.row; loaded = followed.loaded; more = record { ledger = followed.leaves; header = refl } })
