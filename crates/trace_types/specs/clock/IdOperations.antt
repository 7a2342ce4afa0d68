-- Splitting and summing ids, by the tables of the interval tree clock.
use Rattle.trace_types.specs.clock.Id.{Id, Zero, One, Pair}

-- the normal form of a pair of normal ids
abbrev pub norm_id : Id → Id → Id
norm_id Zero Zero = Zero
norm_id One One = One
norm_id left right = Pair left right

-- the two parts of an id
abbrev pub split : Id → Id × Id
split Zero = (Zero, Zero)
split One = (Pair One Zero, Pair Zero One)
split (Pair Zero right) = (Pair Zero (split right).0, Pair Zero (split right).1)
split (Pair left Zero) = (Pair (split left).0 Zero, Pair (split left).1 Zero)
split (Pair left right) = (Pair left Zero, Pair Zero right)

-- what two disjoint ids own together; of ids that overlap, the last two lines say what is never asked
abbrev pub sum : Id → Id → Id
sum Zero b = b
sum a Zero = a
sum (Pair left right) (Pair left' right') = norm_id (sum left left') (sum right right')
sum One b = One
sum a One = One
