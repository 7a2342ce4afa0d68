use Rattle.event_tree.proofs.Paths.{above_at_least, above_at_greatest}
use Rattle.event_tree.proofs.Walk.{below_from_ranges}
use Rattle.event_tree.proofs.ev_tree.above.+is_below_or_path.Goals as goal

pub returns-then-is_below-clause-found : goal.returns-then-is_below-clause-found
returns-then-is_below-clause-found t c =
    let apart = rw (c.range-here.ensures, c.range-there.ensures) at (c.is_below.ensures.0 c.if-is_below.true) in
    (below_from_ranges c.args.one_lift c.args.other_lift c.args.one.now c.args.other.now apart, c.requires.none)

pub returns-then-there-here-clause-found : goal.returns-then-there-here-clause-found
returns-then-there-here-clause-found t c =
    let low = rw (c.range-here.ensures, c.range-there.ensures) at c.if-there-here.true in
    above_at_least c.args.one_lift c.args.other_lift c.args.one.now c.args.other.now c.lead_to_least.new.path c.in_ok-lead_to_least.ensures.least low

pub returns-then-there-here-2-clause-found : goal.returns-then-there-here-2-clause-found
returns-then-there-here-2-clause-found t c =
    let high = rw (c.range-here.ensures, c.range-there.ensures) at c.if-there-here-2.true in
    above_at_greatest c.args.one_lift c.args.other_lift c.args.one.now c.args.other.now c.lead_to_greatest.new.path c.in_ok-lead_to_greatest.ensures.greatest high
