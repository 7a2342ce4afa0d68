use Rattle.std.proofs.Common.{refl}
use Rattle.event_tree.proofs.Growing.{grew_whole}
use Rattle.event_tree.proofs.ev_tree.EvTree.grown_whole.Goals as goal

pub returns-clause-point : goal.returns-clause-point
returns-clause-point c =
    rw (c.leaf.ensures, c.max-value.ensures) (grew_whole c.args.self.now _ refl refl)
