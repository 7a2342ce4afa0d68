-- The places of a tree's inner nodes. A place is a path of halves from the root, and each operation on ids has its inner
-- nodes where those before it had theirs; a split has one place more, the same in both parts.
use Rattle.std.proofs.Common.{◌≡◌, ℕ, suc, ◌+◌, ◌≤◌, refl, arith}
use Rattle.trace_types.specs.clock.Id.{Id, Zero, One, Pair}
use Rattle.trace_types.specs.clock.IdOperations.{norm_id, split, sum}
use Rattle.trace_types.specs.clock.Size.{inner_of_id}

-- Some places, and with each of them every place above it: none, or the root with places of the two halves.
pub data Places : Type 0 where
  Nowhere : Places
  Here : (left right : Places) → Places

-- how many places
abbrev pub place_count : Places → ℕ
place_count Nowhere = 0
place_count (Here left right) = suc (place_count left + place_count right)

-- each of the first places is one of the second
abbrev pub AreAmong : Places → Places → Type 0
AreAmong Nowhere others = Unit {0}
AreAmong (Here left right) Nowhere = ⊥
AreAmong (Here left right) (Here left' right') = AreAmong left left' × AreAmong right right'

-- the places are among themselves
pub AreAmong-refl : (places : Places) → AreAmong places places
AreAmong-refl Nowhere = tt
AreAmong-refl (Here left right) = (AreAmong-refl left, AreAmong-refl right)

-- what is among places that are among others is among those
pub AreAmong-trans : (a b c : Places) → AreAmong a b → AreAmong b c → AreAmong a c
AreAmong-trans Nowhere b c in_b in_c = tt
AreAmong-trans (Here l r) Nowhere c in_b in_c = absurd in_b
AreAmong-trans (Here l r) (Here l' r') Nowhere in_b in_c = absurd in_c
AreAmong-trans (Here l r) (Here l' r') (Here l'' r'') in_b in_c =
    (AreAmong-trans l l' l'' in_b.0 in_c.0, AreAmong-trans r r' r'' in_b.1 in_c.1)

-- they are no more
pub place_count-le : (a b : Places) → AreAmong a b → place_count a ≤ place_count b
place_count-le Nowhere b among = omega arith
place_count-le (Here l r) Nowhere among = absurd among
place_count-le (Here l r) (Here l' r') among = omega (arith, place_count-le l l' among.0, place_count-le r r' among.1)

-- the places of an id's inner nodes
abbrev pub inside : Id → Places
inside Zero = Nowhere
inside One = Nowhere
inside (Pair left right) = Here (inside left) (inside right)

pub place_count-inside : (id : Id) → place_count (inside id) ≡ inner_of_id id
place_count-inside Zero = refl
place_count-inside One = refl
place_count-inside (Pair left right) = omega (arith, place_count-inside left, place_count-inside right)

-- an id whose inner nodes are at these places has no more of them
pub inner_of_id-le : (id : Id) (places : Places) → AreAmong (inside id) places → inner_of_id id ≤ place_count places
inner_of_id-le id places among = omega (arith, place_count-inside id, place_count-le (inside id) places among)

-- the normal form of a pair has no other places than the pair
pub among-norm : (left right : Id) (p q : Places) → AreAmong (inside left) p → AreAmong (inside right) q → AreAmong (inside (norm_id left right)) (Here p q)
among-norm Zero Zero p q in_left in_right = tt
among-norm One One p q in_left in_right = tt
among-norm Zero One p q in_left in_right = (tt, tt)
among-norm One Zero p q in_left in_right = (tt, tt)
among-norm Zero (Pair l r) p q in_left in_right = (tt, in_right)
among-norm One (Pair l r) p q in_left in_right = (tt, in_right)
among-norm (Pair l r) right p q in_left in_right = (in_left, in_right)

-- a sum has no other places than the two
pub among-sum : (a b : Id) (places : Places) → AreAmong (inside a) places → AreAmong (inside b) places → AreAmong (inside (sum a b)) places
among-sum Zero b places in_a in_b = in_b
among-sum One Zero places in_a in_b = in_a
among-sum One One places in_a in_b = tt
among-sum One (Pair l r) places in_a in_b = tt
among-sum (Pair l r) Zero places in_a in_b = in_a
among-sum (Pair l r) One places in_a in_b = tt
among-sum (Pair l r) (Pair l' r') Nowhere in_a in_b = absurd in_a
among-sum (Pair l r) (Pair l' r') (Here p q) in_a in_b =
    among-norm (sum l l') (sum r r') p q (among-sum l l' p in_a.0 in_b.0) (among-sum r r' q in_a.1 in_b.1)

-- the places with the root of the id's first part that is everything, where a split divides it
abbrev pub opened : Id → Places → Places
opened Zero places = places
opened One Nowhere = Here Nowhere Nowhere
opened One (Here p q) = Here p q
opened (Pair left right) Nowhere = Nowhere
opened (Pair Zero right) (Here p q) = Here p (opened right q)
opened (Pair left Zero) (Here p q) = Here (opened left p) q
opened (Pair left right) (Here p q) = Here p q

-- a place more at most
pub place_count-opened : (id : Id) (places : Places) → place_count (opened id places) ≤ suc (place_count places)
place_count-opened Zero places = omega arith
place_count-opened One Nowhere = omega arith
place_count-opened One (Here p q) = omega arith
place_count-opened (Pair left right) Nowhere = omega arith
place_count-opened (Pair Zero right) (Here p q) = omega (arith, place_count-opened right q)
place_count-opened (Pair One Zero) (Here p q) = omega (arith, place_count-opened One p)
place_count-opened (Pair (Pair l r) Zero) (Here p q) = omega (arith, place_count-opened (Pair l r) p)
place_count-opened (Pair One One) (Here p q) = omega arith
place_count-opened (Pair One (Pair l r)) (Here p q) = omega arith
place_count-opened (Pair (Pair l r) One) (Here p q) = omega arith
place_count-opened (Pair (Pair l r) (Pair l' r')) (Here p q) = omega arith

-- and those that were
pub among-opened : (id : Id) (places : Places) → AreAmong places (opened id places)
among-opened Zero places = AreAmong-refl places
among-opened One Nowhere = tt
among-opened One (Here p q) = AreAmong-refl (Here p q)
among-opened (Pair left right) Nowhere = tt
among-opened (Pair Zero right) (Here p q) = (AreAmong-refl p, among-opened right q)
among-opened (Pair One Zero) (Here p q) = (among-opened One p, AreAmong-refl q)
among-opened (Pair (Pair l r) Zero) (Here p q) = (among-opened (Pair l r) p, AreAmong-refl q)
among-opened (Pair One One) (Here p q) = AreAmong-refl (Here p q)
among-opened (Pair One (Pair l r)) (Here p q) = AreAmong-refl (Here p q)
among-opened (Pair (Pair l r) One) (Here p q) = AreAmong-refl (Here p q)
among-opened (Pair (Pair l r) (Pair l' r')) (Here p q) = AreAmong-refl (Here p q)

-- both ids have their inner nodes at these places
abbrev pub BothAmong : Id × Id → Places → Type 0
BothAmong parts places = AreAmong (inside parts.0) places × AreAmong (inside parts.1) places

-- the parts of a split have no place but those of the id and the one that it opens
pub among-split : (id : Id) (places : Places) → AreAmong (inside id) places → BothAmong (split id) (opened id places)
among-split Zero places among = (tt, tt)
among-split One Nowhere among = ((tt, tt), (tt, tt))
among-split One (Here p q) among = ((tt, tt), (tt, tt))
among-split (Pair left right) Nowhere among = absurd among
among-split (Pair Zero right) (Here p q) among =
    let parts = among-split right q among.1 in ((tt, parts.0), (tt, parts.1))
among-split (Pair One Zero) (Here p q) among =
    let parts = among-split One p tt in ((parts.0, tt), (parts.1, tt))
among-split (Pair (Pair l r) Zero) (Here p q) among =
    let parts = among-split (Pair l r) p among.0 in ((parts.0, tt), (parts.1, tt))
among-split (Pair One One) (Here p q) among = ((tt, tt), (tt, tt))
among-split (Pair One (Pair l r)) (Here p q) among = ((tt, tt), (tt, among.1))
among-split (Pair (Pair l r) One) (Here p q) among = ((among.0, tt), (tt, tt))
among-split (Pair (Pair l r) (Pair l' r')) (Here p q) among = ((among.0, tt), (tt, among.1))
