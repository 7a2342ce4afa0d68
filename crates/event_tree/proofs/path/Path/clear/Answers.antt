use Rattle.std.proofs.Common.{ap}
use Rattle.event_tree.specs.PathCode.{point_of}
use Rattle.event_tree.proofs.path.Path.clear.Goals as goal

pub returns : goal.returns
returns c = ap point_of c.clear.ensures.items
