-- What the trees of a tenant's events come to.
use Rattle.std.specs.Prelude.{◌≡◌, ◌↔◌, ℕ, suc, ◌≤◌, IsTrue, List, ◌∷◌, ◌++◌, length}
use Rattle.trace_types.specs.tenant.Rows.{History, last_event}
use Rattle.trace_types.specs.tenant.Reachability.{reaches, second_event}
use Rattle.trace_types.specs.clock.Points.{Point}
use Rattle.trace_types.specs.clock.EventTree.{EventTree, maximum, value}
use Rattle.trace_types.specs.clock.Clock.{tree_clock}
use Rattle.trace_types.specs.clock.Stamps.{tree_of, acting_id, known_before}
use Rattle.trace_types.specs.declared.row.Row.{Row}
use Rattle.event_tree.specs.Risen.{IsRaisedAt}

-- the greatest value of the event's tree is at most the event's number
abbrev pub IsAtMostItsNumber : History → ℕ → Type 0
IsAtMostItsNumber history event = maximum (tree_of tree_clock history event) ≤ event

-- what is known before the event of a row, of what the events that it follows knew
abbrev pub known_before_event : Row → History → EventTree
known_before_event row earlier =
    known_before tree_clock row.kind (tree_of tree_clock earlier (last_event earlier row.task)) (tree_of tree_clock earlier (second_event earlier row.kind row.name))

-- The event raised the point: the id with which it was made owns it, and the event knows more of it than was known before.
pub record IsRaisedBy (history : History) (event : ℕ) (point : Point) : Type 0 where
  pub later : List Row
  pub row : Row
  pub earlier : History
  pub rows : history ≡ later ++ row ∷ earlier
  pub number : event ≡ suc (length earlier)
  pub raised : IsRaisedAt (acting_id tree_clock earlier row) (known_before_event row earlier) (tree_of tree_clock history event) point

-- The point decides which events the event reaches: those that know as much of it.
abbrev pub DecidesReach : History → ℕ → Point → Type 0
DecidesReach history event point = (other : ℕ)
    → (value (tree_of tree_clock history event) point ≤ value (tree_of tree_clock history other) point) ↔ IsTrue (reaches history event other)
