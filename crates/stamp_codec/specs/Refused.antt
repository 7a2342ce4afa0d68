-- What does not stand at the front of a text where the one pass refuses it.
use Rattle.std.specs.Prelude.{◌≢◌, ℕ, ◌≤◌, List, ◌∷◌, ◌++◌}
use Rattle.std.specs.Fmt.{decimal}
use Rattle.trace_types.specs.clock.Id.{Id, IsNormalId}
use Rattle.trace_types.specs.clock.EventTree.{EventTree, maximum, IsNormal}
use Rattle.event_tree.specs.Height.{height}
use Rattle.stamp_codec.specs.StampText.{id_text, tree_text}
use Rattle.stamp_codec.specs.Bounds.{id_height}

-- a normal id that is nested at most so many levels deep
pub record IsIdWithin (levels : ℕ) (id : Id) : Type 0 where
  pub normal : IsNormalId id
  pub low : id_height id ≤ levels

-- a normal tree that is nested at most so many levels deep, and no value of which is above this one
pub record IsTreeWithin (levels most : ℕ) (tree : EventTree) : Type 0 where
  pub normal : IsNormal tree
  pub low : height tree ≤ levels
  pub small : maximum tree ≤ most

-- no such id stands there with this byte behind it
abbrev pub NoId : ℕ → ℕ → List ℕ → Type 0
NoId levels end text = (id : Id) (behind : List ℕ) → IsIdWithin levels id → text ≢ id_text id ++ (end ∷ behind)

-- no such pair stands there behind its parenthesis
abbrev pub NoPair : ℕ → List ℕ → Type 0
NoPair levels text = (id : Id) (behind : List ℕ) → IsIdWithin levels id → 40 ∷ text ≢ id_text id ++ behind

-- no number that is small enough stands there with this byte behind it
abbrev pub NoNumber : ℕ → ℕ → List ℕ → Type 0
NoNumber most end text = (n : ℕ) (behind : List ℕ) → n ≤ most → text ≢ decimal n ++ (end ∷ behind)

-- no such tree stands there with this byte behind it
abbrev pub NoTree : ℕ → ℕ → ℕ → List ℕ → Type 0
NoTree levels most end text = (tree : EventTree) (behind : List ℕ) → IsTreeWithin levels most tree → text ≢ tree_text tree ++ (end ∷ behind)

-- no such node stands there behind its parenthesis
abbrev pub NoNode : ℕ → ℕ → List ℕ → Type 0
NoNode levels most text = (tree : EventTree) (behind : List ℕ) → IsTreeWithin levels most tree → 40 ∷ text ≢ tree_text tree ++ behind
