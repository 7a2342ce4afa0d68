-- Points at which one value decides whether a tree is below another.
use Rattle.std.specs.Prelude.{◌≡◌, ℕ, ◌-◌, ◌<◌, ◌≤◌, IsTrue, List, Option, Some, None}
use Rattle.std.specs.List.{slice_index_or}
use Rattle.trace_types.specs.clock.Points.{Point}
use Rattle.trace_types.specs.clock.EventTree.{EventTree, value}
use Rattle.event_tree.specs.Comparison.{IsBelow}
use Rattle.trace_query.specs.Queries.{has_tree, tree_at}
use Rattle.trace_query.specs.declared.compare.Earlier.{Earlier}
use Rattle.trace_query.specs.declared.compare.Earlier.TheVariants.{First, Second}
use Rattle.event_tree.specs.declared.point.RaisedPoint.{RaisedPoint}

-- the first tree is below the second where it is no greater at the point
abbrev pub DecidesBelow : Point → EventTree → EventTree → Type 0
DecidesBelow point e f = value e point ≤ value f point → IsBelow e f

-- the value of the first tree at a point that decides whether it is below the second
pub record IsDeciding (deciding : RaisedPoint) (e f : EventTree) : Type 0 where
  pub own : deciding.value ≡ value e deciding.point
  pub decides : DecidesBelow deciding.point e f

-- The point tells how the trees of two events stand: it decides whether that of the earlier one is below that of the later one, which is
-- not below it.
abbrev pub IsToldAt : Earlier → RaisedPoint → EventTree → EventTree → Type 0
IsToldAt First deciding e f = IsDeciding deciding e f × ¬ IsBelow f e
IsToldAt Second deciding e f = IsDeciding deciding f e × ¬ IsBelow e f

-- so it is where there is a point
abbrev pub IsToldBy : Earlier → Option RaisedPoint → EventTree → EventTree → Type 0
IsToldBy earlier None e f = Unit {0}
IsToldBy earlier (Some deciding) e f = IsToldAt earlier deciding e f

-- a point, where there is one, decides whether the first tree is below the second
abbrev pub IsDecidedBy : Option RaisedPoint → EventTree → EventTree → Type 0
IsDecidedBy None e f = Unit {0}
IsDecidedBy (Some deciding) e f = IsDeciding deciding e f

-- the point in this place; behind the last one there is none
abbrev pub point_in : List (Option RaisedPoint) → ℕ → Option RaisedPoint
point_in points place = slice_index_or points place None

-- each event's point decides whether its tree is below that of a later event
abbrev pub DecideInOrder : List EventTree → List (Option RaisedPoint) → Type 0
DecideInOrder trees points =
    (earlier later : ℕ) → IsTrue (has_tree trees earlier) → IsTrue (has_tree trees later) → earlier < later
    → IsDecidedBy (point_in points (earlier - 1)) (tree_at trees earlier) (tree_at trees later)
