use Rattle.std.proofs.Common.{rules, ◌≡◌, ◌-◌, not}
use Rattle.std.specs.Cmp.Lexicographic.{pointwise}
use Rattle.std.specs.Prelude.{nat_eq}
use Rattle.trace_export.specs.Listing.{listed_of}
use Rattle.trace_export.proofs.Comparing.{other_preds, row_is, same_preds}
use Rattle.trace_export.proofs.follower.Follower.is_as_listed.Goals as goal

pub returns-then-ne : goal.returns-then-ne
returns-then-ne c = λ row at.
    let rows = c.args.self.now.ledger.rows in
    let same = row_is c.rows.result.now rows (c.args.number - 1) c.index-rows-number.result row c.rows.ensures.rows c.index-rows-number.is at in
    let differ : c.ne.result ≡ not (pointwise nat_eq c.index-rows-number.result.preds c.args.listed.now.preds) = search rules in
    other_preds rows c.args.number row c.index-rows-number.result (listed_of c.args.listed.now) c.ne.result same differ c.if-ne.true

pub returns : goal.returns
returns c = λ row at.
    let rows = c.args.self.now.ledger.rows in
    let same = row_is c.rows.result.now rows (c.args.number - 1) c.index-rows-number.result row c.rows.ensures.rows c.index-rows-number.is at in
    let differ : c.ne.result ≡ not (pointwise nat_eq c.index-rows-number.result.preds c.args.listed.now.preds) = search rules in
    same_preds rows c.args.number row c.index-rows-number.result (listed_of c.args.listed.now) c.ne.result c.in_ok-is.is' same differ c.if-ne.false c.in_ok-is.ensures
