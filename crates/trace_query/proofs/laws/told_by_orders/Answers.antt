use Rattle.std.proofs.Common.{refl}
use Rattle.trace_types.specs.declared.order.Order.TheVariants.{Before, Concurrent}
use Rattle.trace_query.proofs.Told.{told_by_orders}
use Rattle.trace_query.proofs.laws.told_by_orders.Goals as goal

pub returns : goal.returns
returns c = record { past = told_by_orders Before refl; concurrent = told_by_orders Concurrent refl }
