-- Points at which a tree is above others.
use Rattle.std.specs.Prelude.{◌≡◌, ℕ, ◌<◌, ◌⊎◌, List, [], ◌∷◌, ◌++◌, length, slice_set, Option, Some, None, IfSome}
use Rattle.trace_types.specs.clock.EventTree.{EventTree, value}
use Rattle.event_tree.specs.declared.point.RaisedPoint.{RaisedPoint}

-- the value is that of the tree at the point
abbrev pub IsPointOf : Option RaisedPoint → EventTree → Type 0
IsPointOf point tree = IfSome point (λ raised. raised.value ≡ value tree raised.point)

-- the value is above that of the tree at the point
abbrev pub IsHigher : Option RaisedPoint → EventTree → Type 0
IsHigher (Some raised) tree = value tree raised.point < raised.value
IsHigher None tree = ⊥

-- the point is the next one, at this place, or none is kept any more
abbrev pub IsPutAt : ℕ → Option RaisedPoint → List (Option RaisedPoint) → List (Option RaisedPoint) → Type 0
IsPutAt place point old new = ((length old ≡ place) × (new ≡ old ++ point ∷ [])) ⊎ (new ≡ [])

-- all points are as they were, but that the one at this place may be forgotten
abbrev pub IsForgotten : ℕ → List (Option RaisedPoint) → List (Option RaisedPoint) → Type 0
IsForgotten place old new = (new ≡ old) ⊎ ((place < length old) × (new ≡ slice_set old place None))
