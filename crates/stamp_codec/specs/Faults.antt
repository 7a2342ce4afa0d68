-- Why a text is refused, and at which place: a count of bytes from its start.
use Rattle.std.specs.Prelude.{◌≡◌, ◌≢◌, ℕ, ◌+◌, ◌<◌, ◌≤◌, ◌⊎◌, min, List, ◌++◌, length, take}
use Rattle.trace_types.specs.clock.Id.{Id, Zero, One, Pair, AreApart}
use Rattle.trace_types.specs.clock.EventTree.{minimum, AreUnequal}
use Rattle.stamp_codec.specs.StampText.{Written, Number, Fork, id_text, written_text, number_written, written_tree, IsShaped}

-- some text with the shape of a stamp begins with the first so many bytes
abbrev pub Begins : List ℕ → ℕ → Type 0
Begins text count = (more : List ℕ) × IsShaped (take count text ++ more)

-- the text has not the shape of a stamp, and this many bytes are the most that begin one
pub record IsShapeFault (text : List ℕ) (place : ℕ) : Type 0 where
  pub fault : ¬ IsShaped text
  pub within : place ≤ length text
  pub begins : Begins text place
  pub most : (count : ℕ) → place < count → count ≤ length text → ¬ Begins text count

-- the least place of all
pub record IsLeast (IsAt : ℕ → Type 0) (place : ℕ) : Type 0 where
  pub here : IsAt place
  pub least : (other : ℕ) → IsAt other → place ≤ other

-- no parentheses are nested deeper
abbrev pub most_nested : ℕ
most_nested = 2048

-- no numbers on the way from the root have a greater sum
abbrev pub greatest_sum : ℕ
greatest_sum = 9223372036854775807

-- a parenthesis too many is opened at the place; the id stands at start, inside so many
abbrev pub IsIdTooDeepAt : ℕ → ℕ → Id → ℕ → Type 0
IsIdTooDeepAt start nested Zero place = ⊥
IsIdTooDeepAt start nested One place = ⊥
IsIdTooDeepAt start nested (Pair left right) place =
    ((nested ≡ most_nested) × (place ≡ start))
    ⊎ (IsIdTooDeepAt (start + 1) (nested + 1) left place
    ⊎ IsIdTooDeepAt (start + 1 + length (id_text left) + 1) (nested + 1) right place)

-- a parenthesis too many is opened at the place, or a number begins there with which the sum from the root is too great;
-- the tree stands at start, inside so many, and above it the numbers have this sum
abbrev pub IsTreeTooLargeAt : ℕ → ℕ → ℕ → Written → ℕ → Type 0
IsTreeTooLargeAt start nested sum (Number digits) place = (greatest_sum < sum + number_written digits) × (place ≡ start)
IsTreeTooLargeAt start nested sum (Fork digits left right) place =
    ((nested ≡ most_nested) × (place ≡ start))
    ⊎ (((greatest_sum < sum + number_written digits) × (place ≡ start + 1))
    ⊎ (IsTreeTooLargeAt (start + 1 + length digits + 1) (nested + 1) (sum + number_written digits) left place
    ⊎ IsTreeTooLargeAt (start + 1 + length digits + 1 + length (written_text left) + 1) (nested + 1) (sum + number_written digits) right place))

-- where the tree of a stamp stands
abbrev pub tree_start : Id → ℕ
tree_start id = 1 + length (id_text id) + 1

-- the text of the stamp is too large at the place
abbrev pub IsTooLargeAt : Id → Written → ℕ → Type 0
IsTooLargeAt id tree place = IsIdTooDeepAt 1 0 id place ⊎ IsTreeTooLargeAt (tree_start id) 0 0 tree place

-- the halves of the pair that is opened at the place are both 0 or both 1
abbrev pub IsIdNotNormalAt : ℕ → Id → ℕ → Type 0
IsIdNotNormalAt start Zero place = ⊥
IsIdNotNormalAt start One place = ⊥
IsIdNotNormalAt start (Pair left right) place =
    ((¬ AreApart left right) × (place ≡ start))
    ⊎ (IsIdNotNormalAt (start + 1) left place
    ⊎ IsIdNotNormalAt (start + 1 + length (id_text left) + 1) right place)

-- neither child of the node that is opened at the place has minimum 0, or they are equal numbers
abbrev pub IsTreeNotNormalAt : ℕ → Written → ℕ → Type 0
IsTreeNotNormalAt start (Number digits) place = ⊥
IsTreeNotNormalAt start (Fork digits left right) place =
    (((min (minimum (written_tree left)) (minimum (written_tree right)) ≢ 0) ⊎ (¬ AreUnequal (written_tree left) (written_tree right))) × (place ≡ start))
    ⊎ (IsTreeNotNormalAt (start + 1 + length digits + 1) left place
    ⊎ IsTreeNotNormalAt (start + 1 + length digits + 1 + length (written_text left) + 1) right place)

-- the text of the stamp has a node that is not normal, opened at the place
abbrev pub IsNotNormalAt : Id → Written → ℕ → Type 0
IsNotNormalAt id tree place = IsIdNotNormalAt 1 id place ⊎ IsTreeNotNormalAt (tree_start id) tree place
