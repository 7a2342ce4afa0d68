-- The graph of the events that lines list, and whether their trees compare as it says.
use Rattle.std.specs.Prelude.{◌≡◌, ℕ, ◌-◌, ◌<◌, ◌≤◌, ◌↔◌, List, [], ◌∷◌, length, Contains}
use Rattle.std.specs.List.{slice_index_or}
use Rattle.trace_types.specs.clock.EventTree.{EventTree, Leaf}
use Rattle.event_tree.specs.Comparison.{IsBelow}
use Rattle.trace_export.specs.declared.placed.Placed.{Placed}

-- The events that lines list: event k has the k-th place, from 1.
abbrev pub Placing : Type 0
Placing = List Placed

-- a number of an event
abbrev pub IsPlaced : Placing → ℕ → Type 0
IsPlaced placing event = (0 < event) × (event ≤ length placing)

-- what is listed of the event; of no event it is not asked
abbrev pub placed_at : Placing → ℕ → Placed
placed_at placing event = slice_index_or placing (event - 1) (record { preds = []; tree = Leaf 0 })

-- the events that it follows, and its tree
abbrev pub listed_preds : Placing → ℕ → List ℕ
listed_preds placing event = (placed_at placing event).preds

abbrev pub listed_tree : Placing → ℕ → EventTree
listed_tree placing event = (placed_at placing event).tree

-- These events lead back from b to a: each is one that the event before it follows, the first of b, and the last is a.
abbrev pub IsWayBack : Placing → ℕ → List ℕ → ℕ → Type 0
IsWayBack placing b [] a = b ≡ a
IsWayBack placing b (event ∷ way) a = Contains (listed_preds placing b) event × IsWayBack placing event way a

-- a reaches b along listed edges, by none where they are the same
abbrev pub IsConnected : Placing → ℕ → ℕ → Type 0
IsConnected placing a b = (way : List ℕ) × IsWayBack placing b way a

-- the tree of a is below that of b, at every point, exactly where a reaches b
abbrev pub ComparesAsConnected : Placing → ℕ → ℕ → Type 0
ComparesAsConnected placing a b = IsBelow (listed_tree placing a) (listed_tree placing b) ↔ IsConnected placing a b

-- the trees of two events compare as the edges say, both ways
abbrev pub AreOrderedAlike : Placing → ℕ → ℕ → Type 0
AreOrderedAlike placing a b = ComparesAsConnected placing a b × ComparesAsConnected placing b a
