use Rattle.std.proofs.Common.{rules}
use Rattle.order_cache.proofs.SameTrees.{StandsAs-same}
use Rattle.order_cache.proofs.compared_pair.Compared.order_of.Goals as goal

pub returns : goal.returns
returns c = StandsAs-same c.self.inside.order c.self.inside.first.value c.args.first.now.value c.self.inside.second.value c.args.second.now.value (search rules) (search rules) c.self.invariant.1
