-- Steps along a path, and where a path leads.
use Rattle.std.proofs.Common.{◌≡◌, ℕ, ◌+◌, ◌<◌, Bool, List, [], ◌∷◌, ◌++◌, length, map, refl, ap, sym, ◌∙◌, arith}
use Rattle.std.proofs.lemmas.List.{reverse-append}
use Rattle.trace_types.specs.clock.Points.{Left, Point, half_of, within_half}
use Rattle.trace_types.specs.clock.EventTree.{EventTree, Leaf, Node, value, minimum, maximum}
use Rattle.event_tree.specs.Above.{IsLiftedAboveAt}
use Rattle.event_tree.specs.PathCode.{half_on, point_of}
use Rattle.event_tree.proofs.Bounds.{minimum-le-value, value-le-maximum}

-- one level more stands above the others
pub point_of-more : (rights : List Bool) (right : Bool) → point_of (rights ++ right ∷ []) ≡ half_on right ∷ point_of rights
point_of-more rights right = ap (map half_on) (reverse-append rights (right ∷ []))

-- the uppermost level, and those below
pub half_of-last : (rights below : List Bool) (right : Bool) → rights ≡ below ++ right ∷ [] → half_on right ≡ half_of (point_of rights)
half_of-last rights below right parts = sym (ap (λ (list : List Bool). half_of (point_of list)) parts ∙ ap half_of (point_of-more below right))

pub within_half-last : (rights below : List Bool) (right : Bool) → rights ≡ below ++ right ∷ [] → point_of below ≡ within_half (point_of rights)
within_half-last rights below right parts = sym (ap (λ (list : List Bool). within_half (point_of list)) parts ∙ ap within_half (point_of-more below right))

-- past its end a path goes on to the left
pub past_end : (rights : List Bool) → length rights ≡ 0 → (Left ≡ half_of (point_of rights)) × (point_of rights ≡ within_half (point_of rights))
past_end [] none = (refl, refl)
past_end (right ∷ rights) none = absurd (omega arith)

module _ (m n : ℕ) (e f : EventTree) (path : Point) where
  -- a tree is above another one where this is least, if its own least value is greater
  pub above_at_least : value f path ≡ minimum f → n + minimum f < m + minimum e → IsLiftedAboveAt m e n f path
  above_at_least least low = omega (arith, least, low, minimum-le-value e path)

  -- and where it is greatest itself, if the other one's greatest value is less
  pub above_at_greatest : value e path ≡ maximum e → n + maximum f < m + maximum e → IsLiftedAboveAt m e n f path
  above_at_greatest greatest high = omega (arith, greatest, high, value-le-maximum f path)

value-step : (tree : EventTree) (path : Point) → value tree (half_of path ∷ within_half path) ≡ value tree path
value-step (Leaf n) path = refl
value-step (Node n left right) path = refl

-- a step of the walk down a path: what is added up, and what is left of the path
pub steps_down : (lift lift' : ℕ) (tree part : EventTree) (right : Bool) (path below : Point) (v : ℕ) → half_on right ≡ half_of path → below ≡ within_half path
    → ((point : Point) → lift' + value part point ≡ lift + value tree (half_on right ∷ point)) → lift + value tree path ≡ v → lift' + value part below ≡ v
steps_down lift lift' tree part right path below v half rest halved adds_up =
    let whole : half_on right ∷ below ≡ half_of path ∷ within_half path = cc in
    omega (arith, halved below, ap (value tree) whole, value-step tree path, adds_up)
