-- Points that events raised.
use Rattle.std.specs.Prelude.{◌≡◌, ℕ, suc, List, length, Option, Some, None}
use Rattle.trace_types.specs.tenant.Rows.{History}
use Rattle.trace_types.specs.clock.Clock.{tree_clock}
use Rattle.trace_types.specs.clock.Stamps.{tree_of}
use Rattle.trace_types.specs.clock.EventTree.{value}
use Rattle.trace_query.specs.Deciding.{point_in}
use Rattle.event_tree.specs.declared.point.RaisedPoint.{RaisedPoint}
use Rattle.tenant_ledger.specs.Laws.{IsRaisedBy}

-- a point that the event raised, with the value there of what it knows
pub record IsPointOf (history : History) (event : ℕ) (deciding : RaisedPoint) : Type 0 where
  pub raised : IsRaisedBy history event deciding.point
  pub own : deciding.value ≡ value (tree_of tree_clock history event) deciding.point

-- so it is where the event has a point
abbrev pub MayHavePoint : History → ℕ → Option RaisedPoint → Type 0
MayHavePoint history event None = Unit {0}
MayHavePoint history event (Some deciding) = IsPointOf history event deciding

-- the points of the events, in their order
pub record ArePoints (history : History) (points : List (Option RaisedPoint)) : Type 0 where
  pub counted : length points ≡ length history
  pub each : (place : ℕ) → MayHavePoint history (suc place) (point_in points place)
