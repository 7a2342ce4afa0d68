-- The laws of event trees.
use Rattle.std.specs.Prelude.{◌≡◌, ◌≢◌, ℕ, ◌+◌, ◌≤◌, ◌↔◌, max}
use Rattle.trace_types.specs.clock.Id.{Id, Zero}
use Rattle.trace_types.specs.clock.Id as ids
use Rattle.trace_types.specs.clock.Points.{Point}
use Rattle.trace_types.specs.declared.order.Order.{Order}
use Rattle.trace_types.specs.declared.order.Order.TheVariants.{Same}
use Rattle.trace_types.specs.clock.EventTree.{EventTree, Node, value, minimum, maximum, IsNormal}
use Rattle.event_tree.specs.Comparison.{IsBelow, StandsAs}
use Rattle.trace_types.specs.clock.Norm.{norm}
use Rattle.trace_types.specs.clock.Join.{join}
use Rattle.trace_types.specs.clock.Fill.{fill}
use Rattle.trace_types.specs.clock.Event.{event}
use Rattle.event_tree.specs.Raised.{StaysOutside, RisesSomewhere}

-- the two trees have one value at every point
abbrev pub HaveSameValues : EventTree → EventTree → Type 0
HaveSameValues e f = (point : Point) → value e point ≡ value f point

-- two normal trees with the same values are the same tree
abbrev pub NormalIsCanonical : Type 0
NormalIsCanonical = (e f : EventTree) → IsNormal e → IsNormal f → HaveSameValues e f → e ≡ f

-- the normal form of a node has the values of the node
abbrev pub NormKeepsValues : Type 0
NormKeepsValues = (n : ℕ) (left right : EventTree) → IsNormal left → IsNormal right → HaveSameValues (norm n left right) (Node n left right)

-- the normal form of a node is normal
abbrev pub NormIsNormal : Type 0
NormIsNormal = (n : ℕ) (left right : EventTree) → IsNormal left → IsNormal right → IsNormal (norm n left right)

-- no value of a tree is below its least or above its greatest, and at some point it has each
pub record HasExtremes (tree : EventTree) : Type 0 where
  pub least : (point : Point) → minimum tree ≤ value tree point
  pub least_reached : (point : Point) × (value tree point ≡ minimum tree)
  pub greatest : (point : Point) → value tree point ≤ maximum tree
  pub greatest_reached : (point : Point) × (value tree point ≡ maximum tree)

-- two trees stand to each other in some way
abbrev pub StandSomehow : Type 0
StandSomehow = (e f : EventTree) → (order : Order) × StandsAs order e f

-- and in one way only
abbrev pub StandOneWay : Type 0
StandOneWay = (e f : EventTree) (order other : Order) → StandsAs order e f → StandsAs other e f → order ≡ other

-- normal trees stand as the same exactly where they are the same tree
abbrev pub SameIsEqual : Type 0
SameIsEqual = (e f : EventTree) → IsNormal e → IsNormal f → (StandsAs Same e f ↔ (e ≡ f))

-- the join has at each point the greater of the two values
abbrev pub JoinHasTheGreater : Type 0
JoinHasTheGreater = (e f : EventTree) (point : Point) → value (join e f) point ≡ max (value e point) (value f point)

-- the join is normal
abbrev pub JoinIsNormal : Type 0
JoinIsNormal = (e f : EventTree) → IsNormal (join e f)

-- filling a normal tree lowers no value
abbrev pub FillLowersNone : Type 0
FillLowersNone = (id : Id) (tree : EventTree) → IsNormal tree → IsBelow tree (fill id tree)

-- and raises only points that the id owns
abbrev pub FillStaysOutside : Type 0
FillStaysOutside = (id : Id) (tree : EventTree) → IsNormal tree → StaysOutside id tree (fill id tree)

-- the filled tree is normal
abbrev pub FillIsNormal : Type 0
FillIsNormal = (id : Id) (tree : EventTree) → IsNormal tree → IsNormal (fill id tree)

-- what holds of each normal id but 0, and each normal tree
abbrev pub ForNormal : (Id → EventTree → Type 0) → Type 0
ForNormal P = (id : Id) (tree : EventTree) → ids.IsNormalId id → id ≢ Zero → IsNormal tree → P id tree

-- an event lowers no value
abbrev pub EventLowersNone : Type 0
EventLowersNone = ForNormal (λ id tree. IsBelow tree (event id tree))

-- it raises only points that the id owns
abbrev pub EventStaysOutside : Type 0
EventStaysOutside = ForNormal (λ id tree. StaysOutside id tree (event id tree))

-- it raises some point
abbrev pub EventRises : Type 0
EventRises = ForNormal (λ id tree. RisesSomewhere tree (event id tree))

-- it raises the greatest value by at most one
abbrev pub EventIsBounded : Type 0
EventIsBounded = ForNormal (λ id tree. maximum (event id tree) ≤ maximum tree + 1)

-- its tree is normal
abbrev pub EventIsNormal : Type 0
EventIsNormal = ForNormal (λ id tree. IsNormal (event id tree))
