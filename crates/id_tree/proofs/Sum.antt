-- What the sum of two ids owns, and when two ids are disjoint.
use Rattle.std.proofs.Common.{◌≡◌, ◌≢◌, ◌↔◌, IsTrue, ◌||◌, Bool, true, false, [], ◌∷◌, refl, ◌∙◌}
use Rattle.trace_types.specs.clock.Points.{Half, Left, Right, Point, at_half}
use Rattle.trace_types.specs.clock.Id.{Id, Zero, One, Pair, owns, IsNormalId, AreDisjoint}
use Rattle.trace_types.specs.clock.IdOperations.{sum}
use Rattle.id_tree.proofs.Ids.{owns-norm, owns-Pair, some_point}
use Rattle.id_tree.proofs.Normal.{IsNormal-norm}

-- a truth or false is that truth
or-false : (x : Bool) → x ≡ (x || false)
or-false true = refl
or-false false = refl

-- a truth or true is true
or-true : (x : Bool) → true ≡ (x || true)
or-true true = refl
or-true false = refl

-- the sum owns what either owns
pub owns-sum : (a b : Id) (point : Point) → owns (sum a b) point ≡ (owns a point || owns b point)
owns-sum Zero b point = refl
owns-sum One Zero point = refl
owns-sum One One point = refl
owns-sum One (Pair l r) point = refl
owns-sum (Pair l r) Zero point = or-false (owns (Pair l r) point)
owns-sum (Pair l r) One point = or-true (owns (Pair l r) point)
owns-sum (Pair l r) (Pair l' r') [] = owns-norm (sum l l') (sum r r') [] ∙ owns-sum l l' []
owns-sum (Pair l r) (Pair l' r') (Left ∷ point) = owns-norm (sum l l') (sum r r') (Left ∷ point) ∙ owns-sum l l' point
owns-sum (Pair l r) (Pair l' r') (Right ∷ point) = owns-norm (sum l l') (sum r r') (Right ∷ point) ∙ owns-sum r r' point

-- the sum of normal ids is normal
pub IsNormal-sum : (a b : Id) → IsNormalId a → IsNormalId b → IsNormalId (sum a b)
IsNormal-sum Zero b n m = m
IsNormal-sum One Zero n m = tt
IsNormal-sum One One n m = tt
IsNormal-sum One (Pair l r) n m = tt
IsNormal-sum (Pair l r) Zero n m = n
IsNormal-sum (Pair l r) One n m = tt
IsNormal-sum (Pair l r) (Pair l' r') n m =
    IsNormal-norm (sum l l') (sum r r') (IsNormal-sum l l' n.0 m.0) (IsNormal-sum r r' n.1 m.1)

-- the same halves of disjoint pairs are disjoint
pub AreDisjoint-half : (left right left' right' : Id) → AreDisjoint (Pair left right) (Pair left' right') → (half : Half) → AreDisjoint (at_half half left right) (at_half half left' right')
AreDisjoint-half left right left' right' disjoint half point in_one in_other =
    disjoint (half ∷ point) (owns-Pair left right half point ∙ in_one) (owns-Pair left' right' half point ∙ in_other)

-- pairs are disjoint where their halves are
pub AreDisjoint-Pair : (left right left' right' : Id) → AreDisjoint left left' → AreDisjoint right right' → AreDisjoint (Pair left right) (Pair left' right')
AreDisjoint-Pair left right left' right' in_left in_right [] = in_left []
AreDisjoint-Pair left right left' right' in_left in_right (Left ∷ point) = in_left point
AreDisjoint-Pair left right left' right' in_left in_right (Right ∷ point) = in_right point

-- ids are disjoint whichever is named first
pub AreDisjoint-sym : (a b : Id) → AreDisjoint a b → AreDisjoint b a
AreDisjoint-sym a b disjoint point in_b in_a = disjoint point in_a in_b

-- everything overlaps each normal id that owns a point
overlap-One : (id : Id) → IsNormalId id → id ≢ Zero → IsTrue false ↔ AreDisjoint One id
overlap-One id normal some =
    let found = some_point true id normal some in
    ((λ never. cc), (λ disjoint. absurd (disjoint found.0 refl found.1)))

-- so do everything and everything
pub overlap-One-One : IsTrue false ↔ AreDisjoint One One
overlap-One-One = overlap-One One tt (λ is. cc)

-- everything and a normal pair
pub overlap-One-Pair : (left right : Id) → IsNormalId (Pair left right) → IsTrue false ↔ AreDisjoint One (Pair left right)
overlap-One-Pair left right normal = overlap-One (Pair left right) normal (λ is. cc)

-- a normal pair and everything
pub overlap-Pair-One : (left right : Id) → IsNormalId (Pair left right) → IsTrue false ↔ AreDisjoint (Pair left right) One
overlap-Pair-One left right normal =
    let overlap = overlap-One-Pair left right normal in
    ((λ never. cc), (λ disjoint. overlap.1 (AreDisjoint-sym (Pair left right) One disjoint)))

-- where the left halves are disjoint, the right ones decide
pub AreDisjoint-Pair-right : (left right left' right' : Id) (b : Bool) → AreDisjoint left left' → (IsTrue b ↔ AreDisjoint right right') → IsTrue b ↔ AreDisjoint (Pair left right) (Pair left' right')
AreDisjoint-Pair-right left right left' right' b in_left in_right = (
  (λ is_true. AreDisjoint-Pair left right left' right' in_left (in_right.0 is_true)),
  (λ disjoint. in_right.1 (AreDisjoint-half left right left' right' disjoint Right)),
)

-- where the left halves overlap, so do the pairs
pub overlap-Pair : (left right left' right' : Id) → (AreDisjoint left left' → IsTrue false) → IsTrue false ↔ AreDisjoint (Pair left right) (Pair left' right')
overlap-Pair left right left' right' overlap = (
  (λ never. cc),
  (λ disjoint. overlap (AreDisjoint-half left right left' right' disjoint Left)),
)
