-- Event trees of the interval tree clock (Almeida, Baquero and Fonte 2008), as plain values.
use Rattle.std.specs.Prelude.{◌≡◌, ℕ, ◌+◌, min, max}
use Rattle.trace_types.specs.clock.Points.{Point, half_of, within_half, at_half}

-- One number everywhere, or a number to be added to what the two halves say.
pub data EventTree : Type 0 where
  Leaf : (n : ℕ) → EventTree
  Node : (n : ℕ) (left right : EventTree) → EventTree

-- the value at a point
abbrev pub value : EventTree → Point → ℕ
value (Leaf n) point = n
value (Node n left right) point = n + at_half (half_of point) (value left (within_half point)) (value right (within_half point))

-- the least value at any point
abbrev pub minimum : EventTree → ℕ
minimum (Leaf n) = n
minimum (Node n left right) = n + min (minimum left) (minimum right)

-- the greatest value at any point
abbrev pub maximum : EventTree → ℕ
maximum (Leaf n) = n
maximum (Node n left right) = n + max (maximum left) (maximum right)

-- the two children are not one number twice
abbrev pub AreUnequal : EventTree → EventTree → Type 0
AreUnequal (Leaf m) (Leaf n) = m ≡ n → ⊥
AreUnequal left right = Unit {0}

-- in each node one child reaches down to 0, and the children are not one number twice
abbrev pub IsNormal : EventTree → Type 0
IsNormal (Leaf n) = Unit {0}
IsNormal (Node n left right) = IsNormal left × IsNormal right × (min (minimum left) (minimum right) ≡ 0) × AreUnequal left right
