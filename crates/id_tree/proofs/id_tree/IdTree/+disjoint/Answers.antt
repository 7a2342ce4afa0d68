use Rattle.std.proofs.Common.{refl}
use Rattle.id_tree.proofs.Sum.{AreDisjoint-Pair-right, overlap-One-One, overlap-One-Pair, overlap-Pair, overlap-Pair-One}
use Rattle.id_tree.proofs.id_tree.IdTree.+disjoint.Goals as goal

pub returns-then-disjoint : goal.returns-then-disjoint
returns-then-disjoint t c =
    let left = rw (c.deref.ensures, c.deref-in-Pair-Pair.ensures) at (c.if-disjoint.ensures.0 refl) in
    let right = rw (c.deref-then-disjoint.ensures, c.deref-then-disjoint-2.ensures) at c.disjoint-then-disjoint.ensures in
    rw (← c.self.view_is, ← c.other.view_is, c.in-Pair-Pair.is-0, c.in-Pair-Pair.is-1) (AreDisjoint-Pair-right _ _ _ _ _ left right)

pub returns-else-disjoint : goal.returns-else-disjoint
returns-else-disjoint t c =
    let left = rw (c.deref.ensures, c.deref-in-Pair-Pair.ensures) at c.if-disjoint.ensures.1 in
    rw (← c.self.view_is, ← c.other.view_is, c.in-Pair-Pair.is-0, c.in-Pair-Pair.is-1, c.if-disjoint.false) (overlap-Pair _ _ _ _ left)

pub returns-in-One-One : goal.returns-in-One-One
returns-in-One-One t c =
    let normal = rw c.in-One-One.is-0 at c.self.invariant.normal in
    rw (← c.self.view_is, ← c.other.view_is, c.in-One-One.is-0, c.in-One-One.is-1) (overlap-Pair-One _ _ normal)

pub returns-in-One-One-2 : goal.returns-in-One-One-2
returns-in-One-One-2 t c =
    rw (← c.self.view_is, ← c.other.view_is, c.in-One-One.is-0, c.in-One-One.is-1) overlap-One-One

pub returns-in-One-One-3 : goal.returns-in-One-One-3
returns-in-One-One-3 t c =
    let normal = rw c.in-One-One.is-1 at c.other.invariant.normal in
    rw (← c.self.view_is, ← c.other.view_is, c.in-One-One.is-0, c.in-One-One.is-1) (overlap-One-Pair _ _ normal)
