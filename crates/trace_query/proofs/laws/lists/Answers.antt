use Rattle.trace_types.specs.declared.order.Order.TheVariants.{Before, Concurrent}
use Rattle.trace_query.proofs.Listed.{others_are_exact, others_increase}
use Rattle.trace_query.proofs.laws.lists.Goals as goal

pub returns : goal.returns
returns c = record {
  past = others_are_exact Before;
  concurrent = others_are_exact Concurrent;
  past_increasing = others_increase Before;
  concurrent_increasing = others_increase Concurrent;
}
