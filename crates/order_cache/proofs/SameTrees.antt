-- Equal trees stand to each other alike.
use Rattle.std.proofs.Common.{◌≡◌, subst}
use Rattle.trace_types.specs.clock.EventTree.{EventTree}
use Rattle.trace_types.specs.declared.order.Order.{Order}
use Rattle.event_tree.specs.Comparison.{StandsAs}

pub StandsAs-same : (order : Order) (e e' f f' : EventTree) → e ≡ e' → f ≡ f' → StandsAs order e f → StandsAs order e' f'
StandsAs-same order e e' f f' same same' stands = subst (λ (tree : EventTree). StandsAs order e' tree) same' (subst (λ (tree : EventTree). StandsAs order tree f) same stands)
