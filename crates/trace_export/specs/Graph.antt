-- What is kept of right lines, to compare the next one with.
use Rattle.std.specs.Prelude.{◌≡◌, ℕ, suc, ◌+◌, ◌-◌, ◌*◌, ◌<◌, ◌≤◌, ◌↔◌, ◌⊎◌, List, [], length, map, All, Contains, Option, None}
use Rattle.std.specs.List.{slice_index_or}
use Rattle.trace_types.specs.clock.EventTree.{EventTree}
use Rattle.trace_types.specs.clock.Join.{join}
use Rattle.event_tree.specs.Comparison.{IsBelow}
use Rattle.event_tree.specs.declared.point.RaisedPoint.{RaisedPoint}
use Rattle.trace_export.specs.Bits.{HasBit}
use Rattle.trace_export.specs.Chains.{AreChains, IsOnChain}
use Rattle.trace_export.specs.Edges.{Placing, IsPlaced, IsConnected, AreOrderedAlike, listed_preds, listed_tree}
use Rattle.trace_export.specs.Raised.{IsPointOf}
use Rattle.trace_export.specs.declared.graph.Graph.{Graph}
use Rattle.trace_export.specs.declared.placed.Placed.{Placed}

-- the events that an event follows are earlier ones
abbrev pub AreEarlier : List ℕ → ℕ → Type 0
AreEarlier preds event = All (λ pred. (0 < pred) × (pred < event)) preds

-- so are those of every event
abbrev pub EdgesLeadBack : Placing → Type 0
EdgesLeadBack placing = (event : ℕ) → IsPlaced placing event → AreEarlier (listed_preds placing event) event

-- the bits of the events that reach the event, but for itself; event k has bit k - 1
abbrev pub reaching_row : List (List ℕ) → ℕ → List ℕ
reaching_row rows event = slice_index_or rows (event - 1) []

-- the bits are those of the events that reach the event
abbrev pub AreReaching : Placing → List ℕ → ℕ → Type 0
AreReaching placing bits event = (place : ℕ) → HasBit bits place ↔ ((suc place < event) × IsConnected placing (suc place) event)

-- of so many first events, one follows this one
abbrev pub IsFollowed : Placing → ℕ → ℕ → Type 0
IsFollowed placing count event = (later : ℕ) × ((0 < later) × (later ≤ count)) × Contains (listed_preds placing later) event

-- the trees of every two events compare as the edges say
abbrev pub AreAllAlike : Placing → Type 0
AreAllAlike placing = (a b : ℕ) → IsPlaced placing a → IsPlaced placing b → a < b → AreOrderedAlike placing a b

-- no row of bits is longer than its event asks
abbrev pub HaveRoom : List (List ℕ) → Type 0
HaveRoom rows = (event : ℕ) → 0 < event → event ≤ length rows → 64 * length (reaching_row rows event) ≤ event + 63

-- The trees compare as the listed edges say. The bits are those of the edges, for as many first events as there are rows.
pub record IsGraph (placing : Placing) (rows : List (List ℕ)) (followed : List ℕ) : Type 0 where
  pub back : EdgesLeadBack placing
  pub alike : AreAllAlike placing
  pub row_count : length rows ≤ length placing
  pub reaching : (event : ℕ) → 0 < event → event ≤ length rows → AreReaching placing (reaching_row rows event) event
  pub room : HaveRoom rows
  pub followed_are : (place : ℕ) → HasBit followed place ↔ IsFollowed placing (length rows) (suc place)

-- so it is with what is kept
abbrev pub rows_of : Graph → List (List ℕ)
rows_of graph = map (λ row. row.items) graph.reaching.items

-- the point of each event that has one is one of its tree
abbrev pub ArePoints : List (Option RaisedPoint) → Placing → Type 0
ArePoints points placing =
    (length points ≤ length placing)
    × ((event : ℕ) → IsPlaced placing event → IsPointOf (slice_index_or points (event - 1) None) (listed_tree placing event))

-- What is kept of right lines: the rest of what they list is made of the first events, and may be of all.
pub record IsKeptGraph (graph : Graph) : Type 0 where
  pub lines : IsGraph graph.placed.items (rows_of graph) graph.followed.items
  pub few : length graph.placed.items ≤ 16384
  pub room : 16384 < 64 * length graph.followed.items
  pub chains : AreChains graph.placed.items graph.chains.before.items graph.chains.tails.items
  pub chained : length graph.chains.before.items ≡ length graph.reaching.items
  pub ends_room : 16384 < 64 * length graph.chains.tails.items
  pub points : ArePoints graph.hints.points.items graph.placed.items

-- the tree is that of the one event, or the join of those of the two
abbrev pub IsJoinOf : Placing → List ℕ → EventTree → Type 0
IsJoinOf placing events tree =
    ((length events ≡ 1) × (tree ≡ listed_tree placing (slice_index_or events 0 0)))
    ⊎ ((length events ≡ 2) × (tree ≡ join (listed_tree placing (slice_index_or events 0 0)) (listed_tree placing (slice_index_or events 1 0))))

-- it is made of all events
abbrev pub IsWhole : Graph → Type 0
IsWhole graph = length graph.reaching.items ≡ length graph.placed.items

-- so are the bits and the chains, whatever is hinted
pub record AreKeptLines (graph : Graph) : Type 0 where
  pub lines : IsGraph graph.placed.items (rows_of graph) graph.followed.items
  pub whole : IsWhole graph
  pub few : length graph.placed.items ≤ 16384
  pub chains : AreChains graph.placed.items graph.chains.before.items graph.chains.tails.items
  pub chained : length graph.chains.before.items ≡ length graph.reaching.items

-- the place is that of an event that some of these follow, or of one that reaches it
abbrev pub IsReachedBy : List (List ℕ) → List ℕ → ℕ → Type 0
IsReachedBy rows preds place = (pred : ℕ) × Contains preds pred × (HasBit (reaching_row rows pred) place ⊎ (place ≡ pred - 1))

-- the event is not among those that reach, while all are that it follows
abbrev pub IsFirstMissing : Placing → List ℕ → ℕ → Type 0
IsFirstMissing placing reaching event =
    (¬ HasBit reaching (event - 1)) × All (λ pred. HasBit reaching (pred - 1)) (listed_preds placing event)

-- a set of events has with an event all that it follows
abbrev pub AreClosed : Placing → List ℕ → Type 0
AreClosed placing bits = (event pred : ℕ) → IsPlaced placing event → Contains (listed_preds placing event) pred → HasBit bits (event - 1) → HasBit bits (pred - 1)

-- A tree that is to come next, above which these bits are, is not below that of the event, where none follows it; nor above,
-- where the event does not reach it and all that it follows do.
pub record IsApartFrom (placing : Placing) (followed reaching : List ℕ) (tree : EventTree) (event : ℕ) : Type 0 where
  pub not_below : ¬ HasBit followed (event - 1) → ¬ IsBelow tree (listed_tree placing event)
  pub not_above : ¬ HasBit reaching (event - 1) → All (λ pred. HasBit reaching (pred - 1)) (listed_preds placing event)
      → ¬ IsBelow (listed_tree placing event) tree

-- A tree that is to come next is not below that of the last event of a chain, where none follows it; nor above that of one of
-- the chain which does not reach it, while all do that this follows.
pub record IsApartFromChain (placing : Placing) (before followed reaching : List ℕ) (tree : EventTree) (last : ℕ) : Type 0 where
  pub not_below : ¬ HasBit followed (last - 1) → ¬ IsBelow tree (listed_tree placing last)
  pub not_above : (event : ℕ) → IsPlaced placing event → IsOnChain before event last → IsFirstMissing placing reaching event
      → ¬ IsBelow (listed_tree placing event) tree

-- the tree is below that of an earlier event, or above that of one that does not reach it
abbrev pub IsRefutedBy : Placing → List ℕ → EventTree → ℕ → Type 0
IsRefutedBy placing reaching tree event =
    IsBelow tree (listed_tree placing event) ⊎ ((¬ HasBit reaching (event - 1)) × IsBelow (listed_tree placing event) tree)

-- The next event's tree is above those that it follows, and apart from the others. So it is ordered as the edges say: what
-- is below an event is below each that follows it.
pub record IsComparedNext (placing : Placing) (followed reaching : List ℕ) (placed : Placed) : Type 0 where
  pub above : All (λ pred. IsBelow (listed_tree placing pred) placed.tree) placed.preds
  pub apart : (event : ℕ) → IsPlaced placing event → IsApartFrom placing followed reaching placed.tree event

-- it is not above one that it follows, or is refuted by an earlier one
abbrev pub RefutesNext : Placing → List ℕ → Placed → Type 0
RefutesNext placing reaching placed =
    ((pred : ℕ) × Contains placed.preds pred × (¬ IsBelow (listed_tree placing pred) placed.tree))
    ⊎ ((event : ℕ) × IsPlaced placing event × IsRefutedBy placing reaching placed.tree event)
