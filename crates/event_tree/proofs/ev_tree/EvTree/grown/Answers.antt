use Rattle.std.proofs.Common.{sym, ◌∙◌}
use Rattle.event_tree.proofs.Grown.{cost-some}
use Rattle.event_tree.proofs.ev_tree.EvTree.grown.Goals as goal

pub unreachable-requires : goal.unreachable-requires
unreachable-requires c =
    let none = sym c.requires.price ∙ c.in_default.is in
    let some = rw none at (cost-some c.args.id.now c.args.self.now c.each_tree_is_normal.ensures c.requires.some) in
    absurd (cc)
