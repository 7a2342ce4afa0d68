use Rattle.std.proofs.Common.{sym, arith}
use Rattle.event_tree.proofs.Joined.{maximum-joined_number-le, joined_number-above, joined_number-below}
use Rattle.event_tree.proofs.ev_tree.EvTree.+raised_to.Goals as goal

pub returns-then-range-number : goal.returns-then-range-number
returns-then-range-number t c =
    let high = rw c.range-range.ensures at c.if-range-number.true in
    rw c.leaf.ensures (sym (joined_number-above c.args.number c.args.lift c.args.self.now (omega (arith, high))))

pub fork-requires : goal.fork-requires
fork-requires t c =
    let fits = rw (← c.self.view_is, c.in-Fork.is) at c.requires in
    rw (c.in_ok-left-in-Fork.ensures, c.in_ok-right-in-Fork.ensures, c.deref.ensures, c.deref-in-Fork.ensures)
    (omega (arith, fits, maximum-joined_number-le))

pub returns-then-number-range : goal.returns-then-number-range
returns-then-number-range t c =
    let low = rw c.range-range.ensures at c.if-number-range.true in
    rw (joined_number-below c.args.number c.args.lift c.args.self.now c.lifted.ensures.normal (omega (arith, low))) c.lifted.ensures.exact
