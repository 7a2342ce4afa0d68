use Rattle.std.proofs.Common.{IfNone, IfOk, IfSome}
use Rattle.trace_export.specs.Checked.{IsRefused, IsRightAfter}
use Rattle.trace_export.proofs.Followed.{holds_listed, kept_if_due}
use Rattle.trace_export.proofs.checked.follow.Goals as goal

pub returns-then-is_due-clause-right : goal.returns-then-is_due-clause-right
returns-then-is_due-clause-right c =
    kept_if_due c.args.follower c.follow_with_room-follower.result.0 c.follow_with_room-follower.new.graph c.args.line.now c.follow_with_room-follower.ensures.following (c.follow_with_room-follower.ensures.due c.if-is_due.true) (c.follow_with_room-follower.ensures.legal c.if-is_due.true)

pub returns-clause-right : goal.returns-clause-right
returns-clause-right c =
    holds_listed (λ header placing. IfOk c.compare.result (λ taken. IfNone taken.1 (IsRightAfter header placing c.args.line.now taken.0))) c.args.follower c.follow_with_room-follower.result.0
    c.list.new.self.placed.items (c.follow_with_room-follower.ensures.left c.if-is_due.false) c.in_ok-list.ensures.placed c.compare.ensures.right

pub returns-clause-faulty : goal.returns-clause-faulty
returns-clause-faulty c =
    holds_listed (λ header placing. IfOk c.compare.result (λ taken. IfSome taken.1 (λ reason. IsRefused reason header placing c.args.line.now))) c.args.follower c.follow_with_room-follower.result.0
    c.list.new.self.placed.items (c.follow_with_room-follower.ensures.left c.if-is_due.false) c.in_ok-list.ensures.placed c.compare.ensures.faulty
