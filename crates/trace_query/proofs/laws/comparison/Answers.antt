use Rattle.trace_query.proofs.ComparedTrees.{tree_order_stands}
use Rattle.trace_query.proofs.laws.comparison.Goals as goal

pub returns : goal.returns
returns c = tree_order_stands
