use Rattle.std.proofs.Common.{arith}
use Rattle.event_tree.proofs.Bounds.{minimum-le-maximum}
use Rattle.event_tree.proofs.ev_tree.EvTree.range.Goals as goal

pub overflow_add-result : goal.overflow_add-result
overflow_add-result c = omega (arith, minimum-le-maximum c.args.self.now)
