-- What is asked of a clock so that what its events know tells their order.
use Rattle.std.specs.Prelude.{◌≡◌, ℕ, Bool, true, false, ◌||◌, ◌&&◌, ◌≤◌, ◌<◌, max}
use Rattle.trace_types.specs.clock.Clock.{Clock}

-- some point is owned
abbrev pub OwnsSome : {Id Point : Type 0} → (Id → Point → Bool) → Id → Type 0
OwnsSome {Id} {Point} owns id = (point : Point) × (owns id point ≡ true)

-- The tree after an event of the id: it is higher at some point, lower at none, and the same at each that the id does not own.
pub record Raises {Id Tree Point : Type 0} (owns : Id → Point → Bool) (value : Tree → Point → ℕ) (IsNormalTree : Tree → Type 0)
    (id : Id) (before after : Tree) : Type 0 where
  pub normal : IsNormalTree after
  pub above : (point : Point) → value before point ≤ value after point
  pub outside : (point : Point) → owns id point ≡ false → value after point ≡ value before point
  pub rises : (point : Point) × (value before point < value after point)

-- The laws of a clock, point by point: ids own points, and trees have a value at each.
pub record ClockLaws {Id Tree : Type 0} (clock : Clock Id Tree) (Point : Type 0)
    (IsNormalId : Id → Type 0) (IsNormalTree : Tree → Type 0) : Type 0 where
  pub owns : Id → Point → Bool
  pub value : Tree → Point → ℕ
  pub nobody_normal : IsNormalId clock.nobody
  pub nobody_owns : (point : Point) → owns clock.nobody point ≡ false
  pub whole_normal : IsNormalId clock.whole
  pub whole_some : OwnsSome owns clock.whole
  pub split_normal : (id : Id) → IsNormalId id → IsNormalId (clock.split id).0 × IsNormalId (clock.split id).1
  pub split_owns : (id : Id) (point : Point) → owns (clock.split id).0 point || owns (clock.split id).1 point ≡ owns id point
  pub split_apart : (id : Id) (point : Point) → owns (clock.split id).0 point && owns (clock.split id).1 point ≡ false
  pub split_some : (id : Id) → IsNormalId id → OwnsSome owns id → OwnsSome owns (clock.split id).0 × OwnsSome owns (clock.split id).1
  pub sum_normal : (a b : Id) → IsNormalId a → IsNormalId b → IsNormalId (clock.sum a b)
  pub sum_owns : (a b : Id) (point : Point) → owns (clock.sum a b) point ≡ (owns a point || owns b point)
  pub start_normal : IsNormalTree clock.start
  pub start_value : (point : Point) → value clock.start point ≡ 0
  pub join_normal : (e f : Tree) → IsNormalTree e → IsNormalTree f → IsNormalTree (clock.join e f)
  pub join_value : (e f : Tree) (point : Point) → value (clock.join e f) point ≡ max (value e point) (value f point)
  pub event_raises : (id : Id) (tree : Tree) → IsNormalId id → OwnsSome owns id → IsNormalTree tree → Raises owns value IsNormalTree id tree (clock.event id tree)
