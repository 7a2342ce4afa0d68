use Rattle.std.proofs.Common.{rules}
use Rattle.trace_types.specs.clock.Points.{Left, Right}
use Rattle.id_tree.proofs.Normal.{leaf_halves}
use Rattle.id_tree.proofs.Sum.{AreDisjoint-half}
use Rattle.id_tree.proofs.id_tree.IdTree.+sum.Goals as goal

pub sum-requires : goal.sum-requires
sum-requires t c =
    let whole = rw (← c.self.view_is, ← c.other.view_is, c.in-Pair-Pair.is-0, c.in-Pair-Pair.is-1) at c.requires in
    (search rules, rw (c.deref.ensures, c.deref-in-Pair-Pair.ensures) (AreDisjoint-half _ _ _ _ whole Left))

pub sum-requires-in-Pair-Pair : goal.sum-requires-in-Pair-Pair
sum-requires-in-Pair-Pair t c =
    let whole = rw (← c.self.view_is, ← c.other.view_is, c.in-Pair-Pair.is-0, c.in-Pair-Pair.is-1) at c.requires in
    (search rules, rw (c.deref-in-Pair-Pair-2.ensures, c.deref-in-Pair-Pair-3.ensures) (AreDisjoint-half _ _ _ _ whole Right))

pub returns-in_err-left-in-Pair-Pair-clause-leaf : goal.returns-in_err-left-in-Pair-Pair-clause-leaf
returns-in_err-left-in-Pair-Pair-clause-leaf t c leaf =
    let halves = leaf_halves _ _ (rw (← c.self.view_is, ← c.other.view_is, c.in-Pair-Pair.is-0, c.in-Pair-Pair.is-1) at leaf) in
    let clash = c.in_err-left-in-Pair-Pair.ensures.leaf (rw (c.deref.ensures, c.deref-in-Pair-Pair.ensures) halves.0) in
    cc
