use Rattle.std.proofs.Common.{◌-◌, length}
use Rattle.message_book.specs.Chains.{follow}
use Rattle.message_book.proofs.Chains.{IsFilled, events_of}
use Rattle.message_book.proofs.entry.fill.Given as goal

abbrev pub invariant-loop-left : goal.invariant-loop-left
invariant-loop-left g l =
    let same = g.T.PartialEq.eq in
    IsFilled same l.later (events_of same l.later (follow l.later (length l.fn.events - 1) l.fn.newest)) l.left l.place l.events (length l.fn.events)

abbrev pub decreases-loop-left : goal.decreases-loop-left
decreases-loop-left g l = l.left
