-- What the halves of an id own, and what that says of the whole.
use Rattle.std.proofs.Common.{◌≡◌, ◌≢◌, ◌⊎◌, Bool, true, false, not, [], ◌∷◌, refl, sym, ◌∙◌, inl, inr}
use Rattle.trace_types.specs.clock.Points.{Half, Left, Right, Point, at_half, half_of}
use Rattle.trace_types.specs.clock.Id.{Id, Zero, One, Pair, owns, AreApart, IsNormalId}
use Rattle.trace_types.specs.clock.IdOperations.{norm_id}
use Rattle.id_tree.specs.Laws.{OwnTheSame}

-- the same on both sides is the same at each half
pub at_half-same : (half : Half) (x : Bool) → at_half half x x ≡ x
at_half-same Left x = refl
at_half-same Right x = refl

-- a point in a half of a pair is owned where that half owns it
pub owns-Pair : (left right : Id) (half : Half) (point : Point) → owns (Pair left right) (half ∷ point) ≡ owns (at_half half left right) point
owns-Pair left right Left point = refl
owns-Pair left right Right point = refl

-- the normal form owns what the pair owns
pub owns-norm : (left right : Id) (point : Point) → owns (norm_id left right) point ≡ owns (Pair left right) point
owns-norm Zero Zero point = sym (at_half-same (half_of point) false)
owns-norm One One point = sym (at_half-same (half_of point) true)
owns-norm Zero One point = refl
owns-norm Zero (Pair l r) point = refl
owns-norm One Zero point = refl
owns-norm One (Pair l r) point = refl
owns-norm (Pair l r) Zero point = refl
owns-norm (Pair l r) One point = refl
owns-norm (Pair l r) (Pair l' r') point = refl

-- all points, or none
abbrev pub leaf : Bool → Id
leaf true = One
leaf false = Zero

-- an id is that leaf, or it is not
pub is_leaf : (all : Bool) (id : Id) → (id ≡ leaf all) ⊎ (id ≢ leaf all)
is_leaf true One = inl refl
is_leaf false Zero = inl refl
is_leaf true Zero = inr (λ same. cc)
is_leaf false One = inr (λ same. cc)
is_leaf true (Pair l r) = inr (λ same. cc)
is_leaf false (Pair l r) = inr (λ same. cc)

-- a leaf is not apart from itself
not_apart : (all : Bool) → AreApart (leaf all) (leaf all) → ⊥
not_apart true apart = apart
not_apart false apart = apart

-- where halves are apart and one is a leaf, the other is not that leaf
pub other_half : (all : Bool) (left right : Id) → AreApart left right → left ≡ leaf all → right ≢ leaf all
other_half all left right apart left_is right_is =
    not_apart all (rw right_is at (rw left_is at apart))

-- a normal id that is not nothing owns some point, and one that is not everything leaves some point
pub some_point : (owned : Bool) (id : Id) → IsNormalId id → id ≢ leaf (not owned) → (point : Point) × (owns id point ≡ owned)
some_point true Zero normal differs = absurd (differs refl)
some_point false Zero normal differs = ([], refl)
some_point true One normal differs = ([], refl)
some_point false One normal differs = absurd (differs refl)
some_point owned (Pair left right) normal differs =
    elim (is_leaf (not owned) left) [
      | inl is ↦
          let found = some_point owned right normal.1 (other_half (not owned) left right normal.2 is) in
          (Right ∷ found.0, found.1)
      | inr is_not ↦
          let found = some_point owned left normal.0 is_not in
          (Left ∷ found.0, found.1)
    ]

-- a leaf is no normal pair
pub pair_differs : (all : Bool) (left right : Id) → IsNormalId (Pair left right) → OwnTheSame (leaf all) (Pair left right) → ⊥
pair_differs true left right normal same =
    let found = some_point false (Pair left right) normal (λ is. cc) in
    let clash : true ≡ false = same found.0 ∙ found.1 in
    cc
pair_differs false left right normal same =
    let found = some_point true (Pair left right) normal (λ is. cc) in
    let clash : false ≡ true = same found.0 ∙ found.1 in
    cc

-- halves of pairs that own the same points own the same points
pub OwnTheSame-half : (left right left' right' : Id) → OwnTheSame (Pair left right) (Pair left' right') → (half : Half) → OwnTheSame (at_half half left right) (at_half half left' right')
OwnTheSame-half left right left' right' same half point =
    sym (owns-Pair left right half point) ∙ same (half ∷ point) ∙ owns-Pair left' right' half point

-- two normal ids that own the same points are one
pub same_points : (a b : Id) → IsNormalId a → IsNormalId b → OwnTheSame a b → a ≡ b
same_points Zero Zero n m same = refl
same_points One One n m same = refl
same_points Zero One n m same = let clash : false ≡ true = same [] in cc
same_points One Zero n m same = let clash : true ≡ false = same [] in cc
same_points Zero (Pair l r) n m same = absurd (pair_differs false l r m same)
same_points One (Pair l r) n m same = absurd (pair_differs true l r m same)
same_points (Pair l r) Zero n m same = absurd (pair_differs false l r n (λ point. sym (same point)))
same_points (Pair l r) One n m same = absurd (pair_differs true l r n (λ point. sym (same point)))
same_points (Pair l r) (Pair l' r') n m same =
    let left_same = same_points l l' n.0 m.0 (OwnTheSame-half l r l' r' same Left) in
    let right_same = same_points r r' n.1 m.1 (OwnTheSame-half l r l' r' same Right) in
    (cc (left_same, right_same))
