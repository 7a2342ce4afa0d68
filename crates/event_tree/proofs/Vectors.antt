-- Published rows, as the definitions compute them.
use Rattle.std.proofs.Common.{◌≡◌, [], ◌∷◌, refl, arith}
use Rattle.trace_types.specs.declared.order.Order.TheVariants.{Before, Concurrent}
use Rattle.trace_types.specs.clock.Points.{Left, Right}
use Rattle.trace_types.specs.clock.EventTree.{Leaf, Node}
use Rattle.event_tree.specs.Comparison.{StandsAs}
use Rattle.trace_types.specs.clock.Norm.{norm}
use Rattle.trace_types.specs.clock.Join.{join}
use Rattle.trace_types.specs.clock.Event.{event}
use Rattle.trace_types.specs.clock.Id.{Id, Zero, One, Pair}
use Rattle.event_tree.proofs.Bounds.{value-le-maximum}

pub norm-2-1-2 : norm 2 (Leaf 1) (Leaf 2) ≡ Node 3 (Leaf 0) (Leaf 1)
norm-2-1-2 = refl

pub norm-3-1-1 : norm 3 (Leaf 1) (Leaf 1) ≡ Leaf 4
norm-3-1-1 = refl

pub stands-210-202 : StandsAs Concurrent (Node 2 (Leaf 1) (Leaf 0)) (Node 2 (Leaf 0) (Leaf 2))
stands-210-202 = (λ below. omega (arith, below (Left ∷ [])), λ above. omega (arith, above (Right ∷ [])))

pub stands-202-4 : StandsAs Before (Node 2 (Leaf 0) (Leaf 2)) (Leaf 4)
stands-202-4 = (λ point. omega (arith, value-le-maximum (Node 2 (Leaf 0) (Leaf 2)) point), λ above. omega (arith, above (Left ∷ [])))

pub stands-4-203 : StandsAs Concurrent (Leaf 4) (Node 2 (Leaf 0) (Leaf 3))
stands-4-203 = (λ below. omega (arith, below (Left ∷ [])), λ above. omega (arith, above (Right ∷ [])))

pub join-210-202 : join (Node 2 (Leaf 1) (Leaf 0)) (Node 2 (Leaf 0) (Leaf 2)) ≡ Node 3 (Leaf 0) (Leaf 1)
join-210-202 = refl

pub join-4-203 : join (Leaf 4) (Node 2 (Leaf 0) (Leaf 3)) ≡ Node 4 (Leaf 0) (Leaf 1)
join-4-203 = refl

pub join-110-10110 : join (Node 1 (Leaf 1) (Leaf 0)) (Node 1 (Leaf 0) (Node 1 (Leaf 1) (Leaf 0))) ≡ Node 2 (Leaf 0) (Node 0 (Leaf 1) (Leaf 0))
join-110-10110 = refl

pub event-10-301 : event (Pair One Zero) (Node 3 (Leaf 0) (Leaf 1)) ≡ Leaf 4
event-10-301 = refl

pub event-1-401 : event One (Node 4 (Leaf 0) (Leaf 1)) ≡ Leaf 5
event-1-401 = refl

pub event-01-2 : event (Pair Zero One) (Leaf 2) ≡ Node 2 (Leaf 0) (Leaf 1)
event-01-2 = refl

-- the id ((1,0),(1,0))
abbrev two_lefts : Id
two_lefts = Pair (Pair One Zero) (Pair One Zero)

pub event-lefts-20010 : event two_lefts (Node 2 (Leaf 0) (Node 0 (Leaf 1) (Leaf 0))) ≡ Node 2 (Leaf 0) (Node 0 (Leaf 2) (Leaf 0))
event-lefts-20010 = refl

pub event-lefts-0 : event two_lefts (Leaf 0) ≡ Node 0 (Leaf 0) (Node 0 (Leaf 1) (Leaf 0))
event-lefts-0 = refl

-- filling comes before growing
pub event-10-002 : event (Pair One Zero) (Node 0 (Leaf 0) (Leaf 2)) ≡ Leaf 2
event-10-002 = refl
