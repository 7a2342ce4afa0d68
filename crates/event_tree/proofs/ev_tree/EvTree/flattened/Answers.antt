use Rattle.std.proofs.Common.{arith}
use Rattle.event_tree.proofs.Filled.{gives_number}
use Rattle.event_tree.proofs.ev_tree.EvTree.flattened.Goals as goal

pub returns-in-Fork-clause-gives : goal.returns-in-Fork-clause-gives
returns-in-Fork-clause-gives c =
    let normal = rw c.in-Fork.is at c.self.invariant.normal in
    rw (c.leaf-in-Fork.ensures, c.max-in-Fork.ensures, c.max.ensures, ← c.self.view_is, c.in-Fork.is) (gives_number _ _ _ _ normal (omega arith))
