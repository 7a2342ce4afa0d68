-- What holds of the ids and trees of a legal history, by any clock with the laws.
use Rattle.std.specs.Prelude.{◌≡◌, ℕ, Bool, true, IsTrue, ◌≤◌}
use Rattle.trace_types.specs.text.Name.{Text}
use Rattle.trace_types.specs.tenant.Rows.{History, last_event, is_event}
use Rattle.trace_types.specs.tenant.Reachability.{reaches}
use Rattle.trace_types.specs.clock.Clock.{Clock}
use Rattle.trace_types.specs.clock.Stamps.{id_of, tree_of}
use Rattle.tenant_ledger.specs.ClockLaws.{ClockLaws, OwnsSome}
use Rattle.tenant_ledger.specs.Legal.{IsLive}

module _ {Id Tree : Type 0} {clock : Clock Id Tree} {Point : Type 0} {IsNormalId : Id → Type 0} {IsNormalTree : Tree → Type 0}
    (laws : ClockLaws clock Point IsNormalId IsNormalTree) (history : History) where
  -- whether the task's id owns the point
  abbrev pub holds : Text → Point → Bool
  holds task point = laws.owns (id_of clock history task) point

  -- the value at the point of what the event knows
  abbrev pub value_of : ℕ → Point → ℕ
  value_of event point = laws.value (tree_of clock history event) point

  -- trees are normal, and a live task owns some point
  pub record AreNormal : Type 0 where
    pub trees : (event : ℕ) → IsNormalTree (tree_of clock history event)
    pub some : (task : Text) → IsLive history task → OwnsSome laws.owns (id_of clock history task)

  -- no point has two holders
  abbrev pub OneHolder : Type 0
  OneHolder = (task other : Text) (point : Point) → holds task point ≡ true → holds other point ≡ true → task ≡ other

  -- the last event of a point's holder knows as much of the point as any event
  abbrev pub HolderIsAhead : Type 0
  HolderIsAhead = (task : Text) (point : Point) → holds task point ≡ true → (event : ℕ) → value_of event point ≤ value_of (last_event history task) point

  -- each event that knows as much of the point as this one is reached by it
  abbrev pub IsPrivate : ℕ → Point → Type 0
  IsPrivate event point = (other : ℕ) → value_of event point ≤ value_of other point → IsTrue (reaches history event other)

  -- some point is private to the event
  abbrev pub HasPrivatePoint : ℕ → Type 0
  HasPrivatePoint event = (point : Point) × IsPrivate event point

  -- each event has a point of its own
  abbrev pub EventsHavePrivatePoints : Type 0
  EventsHavePrivatePoints = (event : ℕ) → IsTrue (is_event history event) → HasPrivatePoint event

  -- an event knows at each point as much as those that reach it
  abbrev pub TreesRise : Type 0
  TreesRise = (event other : ℕ) → IsTrue (reaches history event other) → (point : Point) → value_of event point ≤ value_of other point

  -- the invariant of a legal history
  pub record Invariant : Type 0 where
    pub normal : AreNormal
    pub one_holder : OneHolder
    pub holder_is_ahead : HolderIsAhead
    pub private_points : EventsHavePrivatePoints
    pub trees_rise : TreesRise
