use Rattle.std.proofs.Common.{sym, ap, ◌∙◌, arith}
use Rattle.tenant_ledger.proofs.Words.{tree_clock, tree_of, history_in}
use Rattle.tenant_ledger.proofs.keeping.Report.{last-le, second-le, id_some, fits, knows_both, knows_own}
use Rattle.tenant_ledger.proofs.keeping.Points.{found_by_report, tree_by_report}
use Rattle.tenant_ledger.proofs.book.Book.tree_after.Goals as goal

pub known-own-requires-clause-event : goal.known-own-requires-clause-event
known-own-requires-clause-event g c = last-le c.requires.book c.requires.report

pub known-requires-clause-event : goal.known-requires-clause-event
known-requires-clause-event g c = omega (arith, c.second.ensures, second-le c.requires.book c.requires.report)

pub event_with_point-requires-clause-some : goal.event_with_point-requires-clause-some
event_with_point-requires-clause-some g c = id_some c.requires.book c.requires.report c.requires.id

pub event_with_point-requires-clause-fits : goal.event_with_point-requires-clause-fits
event_with_point-requires-clause-fits g c =
    let takes = sym c.takes_in.ensures ∙ c.if-takes_in.true in
    fits c.requires.book c.requires.report (c.in_ok-known.ensures ∙ knows_both c.requires.book c.requires.report takes c.known-own.ensures (c.known.ensures ∙ ap (tree_of tree_clock (history_in c.args.self.now)) c.second.ensures))

pub event_with_point-requires-else-takes_in-clause-some : goal.event_with_point-requires-else-takes_in-clause-some
event_with_point-requires-else-takes_in-clause-some g c = id_some c.requires.book c.requires.report c.requires.id

pub event_with_point-requires-else-takes_in-clause-fits : goal.event_with_point-requires-else-takes_in-clause-fits
event_with_point-requires-else-takes_in-clause-fits g c =
    let takes_none = sym c.takes_in.ensures ∙ c.if-takes_in.false in
    fits c.requires.book c.requires.report (knows_own c.requires.book c.requires.report takes_none c.known-own.ensures)

pub returns-then-takes_in-clause-tree : goal.returns-then-takes_in-clause-tree
returns-then-takes_in-clause-tree g c =
    let takes = sym c.takes_in.ensures ∙ c.if-takes_in.true in
    let known = c.in_ok-known.ensures ∙ knows_both c.requires.book c.requires.report takes c.known-own.ensures (c.known.ensures ∙ ap (tree_of tree_clock (history_in c.args.self.now)) c.second.ensures) in
    tree_by_report c.args.self.now c.args.report.now c.requires.id known c.event_with_point.result c.event_with_point.ensures.exact

pub returns-then-takes_in-clause-point : goal.returns-then-takes_in-clause-point
returns-then-takes_in-clause-point g c =
    let takes = sym c.takes_in.ensures ∙ c.if-takes_in.true in
    let known = c.in_ok-known.ensures ∙ knows_both c.requires.book c.requires.report takes c.known-own.ensures (c.known.ensures ∙ ap (tree_of tree_clock (history_in c.args.self.now)) c.second.ensures) in
    let found = c.event_with_point.ensures in
    found_by_report c.args.self.now c.args.report.now c.requires.id known c.event_with_point.result found.exact found.raised found.value

pub returns-clause-point : goal.returns-clause-point
returns-clause-point g c =
    let takes_none = sym c.takes_in.ensures ∙ c.if-takes_in.false in
    let known = knows_own c.requires.book c.requires.report takes_none c.known-own.ensures in
    let found = c.event_with_point-else-takes_in.ensures in
    found_by_report c.args.self.now c.args.report.now c.requires.id known c.event_with_point-else-takes_in.result found.exact found.raised found.value
