-- The rows of the published tables of join, grow and event.
use Rattle.std.specs.Prelude.{◌≡◌, ◌≢◌, ℕ, ◌+◌, ◌-◌, ◌≤◌, max, true, false, Some}
use Rattle.trace_types.specs.clock.Id.{Id, Zero, One, Pair}
use Rattle.trace_types.specs.clock.Id as ids
use Rattle.trace_types.specs.clock.EventTree.{EventTree, Leaf, Node}
use Rattle.trace_types.specs.clock.Norm.{norm}
use Rattle.trace_types.specs.clock.Join.{lifted, join}
use Rattle.trace_types.specs.clock.Fill.{fill}
use Rattle.trace_types.specs.clock.Grow.{is_cheaper, dearer, cost, grown}
use Rattle.trace_types.specs.clock.Event.{normalised, event}

-- join: numbers, a number beside a node, two nodes, and else the two swapped
pub record IsPublishedJoin : Type 0 where
  pub numbers : (m n : ℕ) → join (Leaf m) (Leaf n) ≡ Leaf (max m n)
  pub number_first : (m n : ℕ) (l r : EventTree) → join (Leaf m) (Node n l r) ≡ join (Node m (Leaf 0) (Leaf 0)) (Node n l r)
  pub number_second : (m : ℕ) (l r : EventTree) (n : ℕ) → join (Node m l r) (Leaf n) ≡ join (Node m l r) (Node n (Leaf 0) (Leaf 0))
  pub nodes : (m n : ℕ) (l r l' r' : EventTree) → m ≤ n → join (Node m l r) (Node n l' r') ≡ norm m (join l (lifted (n - m) l')) (join r (lifted (n - m) r'))
  pub swapped : (e f : EventTree) → join e f ≡ join f e

-- grow: a number, an inner id at a number, an id with one half 0, and the cheaper half
pub record IsPublishedGrow : Type 0 where
  pub number : (n : ℕ) → (grown One (Leaf n) ≡ Leaf (n + 1)) × (cost One (Leaf n) ≡ Some (record { expansions = 0; steps = 0 }))
  pub expanded : (il ir : Id) (n : ℕ) → let over = Node n (Leaf 0) (Leaf 0) in (grown (Pair il ir) (Leaf n) ≡ grown (Pair il ir) over) × (cost (Pair il ir) (Leaf n) ≡ dearer 1 0 (cost (Pair il ir) over))
  pub left_free : (ir : Id) (n : ℕ) (l r : EventTree) → (grown (Pair Zero ir) (Node n l r) ≡ Node n l (grown ir r)) × (cost (Pair Zero ir) (Node n l r) ≡ dearer 0 1 (cost ir r))
  pub right_free : (il : Id) (n : ℕ) (l r : EventTree) → ids.IsNormalId il → il ≢ Zero → (grown (Pair il Zero) (Node n l r) ≡ Node n (grown il l) r) × (cost (Pair il Zero) (Node n l r) ≡ dearer 0 1 (cost il l))
  pub left_cheaper : (il ir : Id) (n : ℕ) (l r : EventTree) → is_cheaper (cost il l) (cost ir r) ≡ true → (grown (Pair il ir) (Node n l r) ≡ Node n (grown il l) r) × (cost (Pair il ir) (Node n l r) ≡ dearer 0 1 (cost il l))
  pub else_right : (il ir : Id) (n : ℕ) (l r : EventTree) → is_cheaper (cost il l) (cost ir r) ≡ false → (grown (Pair il ir) (Node n l r) ≡ Node n l (grown ir r)) × (cost (Pair il ir) (Node n l r) ≡ dearer 0 1 (cost ir r))

-- event: the filled tree where it is another, else the grown one in normal form
pub record IsPublishedEvent : Type 0 where
  pub filled : (id : Id) (tree : EventTree) → fill id tree ≢ tree → event id tree ≡ fill id tree
  pub grows : (id : Id) (tree : EventTree) → fill id tree ≡ tree → event id tree ≡ normalised (grown id tree)
