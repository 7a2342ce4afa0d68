-- What the parts of a split own, and why they are normal.
use Rattle.std.proofs.Common.{◌≡◌, ◌≢◌, ◌||◌, ◌&&◌, Bool, true, false, [], ◌∷◌, refl}
use Rattle.trace_types.specs.clock.Points.{Left, Right}
use Rattle.trace_types.specs.clock.Id.{Id, Zero, One, Pair, owns, AreApart, IsNormalId}
use Rattle.trace_types.specs.clock.IdOperations.{split}
use Rattle.id_tree.specs.Laws.{SharesOut}
use Rattle.id_tree.proofs.Normal.{AreApart-sym, AreApart-Zero}

-- where both halves own something, each part has one of them
pub split_both : (left right : Id) → left ≢ Zero → right ≢ Zero → split (Pair left right) ≡ (Pair left Zero, Pair Zero right)
split_both Zero right in_left in_right = absurd (in_left refl)
split_both One Zero in_left in_right = absurd (in_right refl)
split_both (Pair l r) Zero in_left in_right = absurd (in_right refl)
split_both One One in_left in_right = refl
split_both One (Pair l r) in_left in_right = refl
split_both (Pair l r) One in_left in_right = refl
split_both (Pair l r) (Pair l' r') in_left in_right = refl

-- one truth and false have that truth between them
all_first : (x : Bool) → (x || false ≡ x) × (x && false ≡ false)
all_first true = (refl, refl)
all_first false = (refl, refl)

-- the whole and nothing share out the whole
pub SharesOut-first : (id : Id) → SharesOut id id Zero
SharesOut-first id point = all_first (owns id point)

-- and so do nothing and the whole
pub SharesOut-second : (id : Id) → SharesOut id Zero id
SharesOut-second id point = (refl, refl)

-- parts of the two halves share out the pair
pub SharesOut-Pair : (left left0 left1 right right0 right1 : Id) → SharesOut left left0 left1 → SharesOut right right0 right1 → SharesOut (Pair left right) (Pair left0 right0) (Pair left1 right1)
SharesOut-Pair left left0 left1 right right0 right1 in_left in_right [] = in_left []
SharesOut-Pair left left0 left1 right right0 right1 in_left in_right (Left ∷ point) = in_left point
SharesOut-Pair left left0 left1 right right0 right1 in_left in_right (Right ∷ point) = in_right point

-- two different halves share out everything
SharesOut-One : SharesOut One (Pair One Zero) (Pair Zero One)
SharesOut-One [] = (refl, refl)
SharesOut-One (Left ∷ point) = (refl, refl)
SharesOut-One (Right ∷ point) = (refl, refl)

-- the same at a pair, where it holds of its halves
SharesOut-split_pair : (left right : Id) → SharesOut left (split left).0 (split left).1 → SharesOut right (split right).0 (split right).1 → SharesOut (Pair left right) (split (Pair left right)).0 (split (Pair left right)).1
SharesOut-split_pair Zero right in_left in_right = SharesOut-Pair Zero Zero Zero right (split right).0 (split right).1 (SharesOut-first Zero) in_right
SharesOut-split_pair One Zero in_left in_right = SharesOut-Pair One (split One).0 (split One).1 Zero Zero Zero in_left (SharesOut-first Zero)
SharesOut-split_pair (Pair l r) Zero in_left in_right = SharesOut-Pair (Pair l r) (split (Pair l r)).0 (split (Pair l r)).1 Zero Zero Zero in_left (SharesOut-first Zero)
SharesOut-split_pair One One in_left in_right = SharesOut-Pair One One Zero One Zero One (SharesOut-first One) (SharesOut-second One)
SharesOut-split_pair One (Pair l r) in_left in_right = SharesOut-Pair One One Zero (Pair l r) Zero (Pair l r) (SharesOut-first One) (SharesOut-second (Pair l r))
SharesOut-split_pair (Pair l r) One in_left in_right = SharesOut-Pair (Pair l r) (Pair l r) Zero One Zero One (SharesOut-first (Pair l r)) (SharesOut-second One)
SharesOut-split_pair (Pair l r) (Pair l' r') in_left in_right = SharesOut-Pair (Pair l r) (Pair l r) Zero (Pair l' r') Zero (Pair l' r') (SharesOut-first (Pair l r)) (SharesOut-second (Pair l' r'))

-- the parts of a split share out the whole
pub SharesOut-split : (id : Id) → SharesOut id (split id).0 (split id).1
SharesOut-split Zero = SharesOut-first Zero
SharesOut-split One = SharesOut-One
SharesOut-split (Pair left right) = SharesOut-split_pair left right (SharesOut-split left) (SharesOut-split right)

-- each part of something is something
pub split-some : (id : Id) → id ≢ Zero → ((split id).0 ≢ Zero) × ((split id).1 ≢ Zero)
split-some Zero some = absurd (some refl)
split-some One some = ((λ is. cc), (λ is. cc))
split-some (Pair Zero right) some = ((λ is. cc), (λ is. cc))
split-some (Pair One Zero) some = ((λ is. cc), (λ is. cc))
split-some (Pair (Pair l r) Zero) some = ((λ is. cc), (λ is. cc))
split-some (Pair One One) some = ((λ is. cc), (λ is. cc))
split-some (Pair One (Pair l r)) some = ((λ is. cc), (λ is. cc))
split-some (Pair (Pair l r) One) some = ((λ is. cc), (λ is. cc))
split-some (Pair (Pair l r) (Pair l' r')) some = ((λ is. cc), (λ is. cc))

-- nothing on the left and a normal id that owns a point on the right are a normal pair
pub IsNormal-in_right : (id : Id) → IsNormalId id → id ≢ Zero → IsNormalId (Pair Zero id)
IsNormal-in_right id normal some = (tt, normal, AreApart-Zero id some)

-- and so are they the other way round
pub IsNormal-in_left : (id : Id) → IsNormalId id → id ≢ Zero → IsNormalId (Pair id Zero)
IsNormal-in_left id normal some = (normal, tt, AreApart-sym Zero id (AreApart-Zero id some))

-- what is apart from nothing is something
pub some_right : (id : Id) → AreApart Zero id → id ≢ Zero
some_right Zero apart is = apart
some_right One apart is = cc
some_right (Pair l r) apart is = cc

-- two ids that are normal
abbrev pub AreNormal : Id → Id → Type 0
AreNormal a b = IsNormalId a × IsNormalId b

-- the same at a pair, where it holds of its halves
IsNormal-split_pair : (left right : Id) → IsNormalId (Pair left right) → AreNormal (split left).0 (split left).1 → AreNormal (split right).0 (split right).1 → AreNormal (split (Pair left right)).0 (split (Pair left right)).1
IsNormal-split_pair Zero right normal in_left in_right =
    let some = split-some right (some_right right normal.2) in
    (IsNormal-in_right (split right).0 in_right.0 some.0, IsNormal-in_right (split right).1 in_right.1 some.1)
IsNormal-split_pair One Zero normal in_left in_right = ((in_left.0, tt, tt), (in_left.1, tt, tt))
IsNormal-split_pair (Pair l r) Zero normal in_left in_right =
    let some = split-some (Pair l r) (λ is. cc) in
    (IsNormal-in_left (split (Pair l r)).0 in_left.0 some.0, IsNormal-in_left (split (Pair l r)).1 in_left.1 some.1)
IsNormal-split_pair One One normal in_left in_right = ((tt, tt, tt), (tt, tt, tt))
IsNormal-split_pair One (Pair l r) normal in_left in_right = ((tt, tt, tt), (tt, normal.1, tt))
IsNormal-split_pair (Pair l r) One normal in_left in_right = ((normal.0, tt, tt), (tt, tt, tt))
IsNormal-split_pair (Pair l r) (Pair l' r') normal in_left in_right = ((normal.0, tt, tt), (tt, normal.1, tt))

-- both parts of a split are normal
pub IsNormal-split : (id : Id) → IsNormalId id → AreNormal (split id).0 (split id).1
IsNormal-split Zero normal = (tt, tt)
IsNormal-split One normal = ((tt, tt, tt), (tt, tt, tt))
IsNormal-split (Pair left right) normal =
    IsNormal-split_pair left right normal (IsNormal-split left normal.0) (IsNormal-split right normal.1)
