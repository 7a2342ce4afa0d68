-- What is normal, and which halves are apart.
use Rattle.std.proofs.Common.{◌≢◌, refl}
use Rattle.trace_types.specs.clock.Id.{Id, Zero, One, Pair, AreApart, IsNormalId}
use Rattle.trace_types.specs.clock.IdOperations.{norm_id}
use Rattle.id_tree.specs.Leaves.{IsLeafId}

-- halves are apart whichever is named first
pub AreApart-sym : (a b : Id) → AreApart a b → AreApart b a
AreApart-sym Zero Zero apart = apart
AreApart-sym One One apart = apart
AreApart-sym Zero One apart = tt
AreApart-sym Zero (Pair l r) apart = tt
AreApart-sym One Zero apart = tt
AreApart-sym One (Pair l r) apart = tt
AreApart-sym (Pair l r) Zero apart = tt
AreApart-sym (Pair l r) One apart = tt
AreApart-sym (Pair l r) (Pair l' r') apart = tt

-- nothing is apart from something
pub AreApart-Zero : (id : Id) → id ≢ Zero → AreApart Zero id
AreApart-Zero Zero some = some refl
AreApart-Zero One some = tt
AreApart-Zero (Pair l r) some = tt

-- the normal form of normal halves is normal
pub IsNormal-norm : (left right : Id) → IsNormalId left → IsNormalId right → IsNormalId (norm_id left right)
IsNormal-norm Zero Zero n m = tt
IsNormal-norm One One n m = tt
IsNormal-norm Zero One n m = (n, m, tt)
IsNormal-norm Zero (Pair l r) n m = (n, m, tt)
IsNormal-norm One Zero n m = (n, m, tt)
IsNormal-norm One (Pair l r) n m = (n, m, tt)
IsNormal-norm (Pair l r) Zero n m = (n, m, tt)
IsNormal-norm (Pair l r) One n m = (n, m, tt)
IsNormal-norm (Pair l r) (Pair l' r') n m = (n, m, tt)

-- halves whose normal form is nothing or everything are so themselves
pub leaf_halves : (left right : Id) → IsLeafId (norm_id left right) → IsLeafId left × IsLeafId right
leaf_halves Zero Zero leaf = (tt, tt)
leaf_halves One One leaf = (tt, tt)
leaf_halves Zero One leaf = absurd leaf
leaf_halves Zero (Pair l r) leaf = absurd leaf
leaf_halves One Zero leaf = absurd leaf
leaf_halves One (Pair l r) leaf = absurd leaf
leaf_halves (Pair l r) right leaf = absurd leaf
