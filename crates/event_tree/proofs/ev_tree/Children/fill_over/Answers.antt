use Rattle.std.proofs.Common.{refl}
use Rattle.event_tree.proofs.Filled.{rises_beside}
use Rattle.event_tree.proofs.ev_tree.Children.fill_over.Goals as goal

pub returns-clause-gives : goal.returns-clause-gives
returns-clause-gives c = record {
  exact = rw (c.in_ok-fork.ensures.exact, c.in_ok-left.ensures, c.in_ok-right.ensures) refl;
  rises =
      rw (c.in_ok-fork.ensures.exact, c.in_ok-left.ensures, c.in_ok-right.ensures)
      (rises_beside c.args.base c.args.self.now.left c.args.self.now.right c.requires.normal _ _ c.requires.normals.0 c.requires.normals.1 c.args.left.now c.args.right.now c.requires.rises.0 c.requires.rises.1 refl refl c.requires.some);
}
