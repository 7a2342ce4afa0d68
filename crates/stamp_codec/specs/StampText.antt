-- The text of a stamp.
--
--   stamp  = "[" id ";" tree "]"
--   id     = "0" | "1" | "(" id "," id ")"
--   tree   = number | "(" number "," tree "," tree ")"
--   number = "0" | nonzero digit, then any digits
use Rattle.std.specs.Prelude.{◌≡◌, ℕ, ◌+◌, ◌-◌, ◌*◌, ◌≤◌, ◌⊎◌, List, [], ◌∷◌, ◌++◌, codes}
use Rattle.trace_types.specs.clock.Id.{Id}
use Rattle.trace_types.specs.clock.EventTree.{EventTree, Leaf, Node}
pub use Rattle.trace_types.specs.text.StampText.{id_text, tree_text}
use Rattle.trace_types.specs.text.StampText.{stamp_text as text_of_stamp}
use Rattle.stamp_codec.specs.declared.stamp.Stamp.{Stamp}

-- the text of a stamp
abbrev pub stamp_as_text : Stamp → List ℕ
stamp_as_text s = text_of_stamp s.id s.tree

-- An event tree as it may be written: each number is a list of digits, of any size.
pub data Written : Type 0 where
  Number : (digits : List ℕ) → Written
  Fork : (digits : List ℕ) (left right : Written) → Written

-- each byte is a digit
abbrev pub AreDigits : List ℕ → Type 0
AreDigits [] = Unit {0}
AreDigits (digit ∷ digits) = (48 ≤ digit) × (digit ≤ 57) × AreDigits digits

-- a 0 alone, or a digit that is not 0 and any digits
abbrev pub IsWrittenNumber : List ℕ → Type 0
IsWrittenNumber [] = ⊥
IsWrittenNumber (first ∷ others) = ((first ≡ 48) × (others ≡ [])) ⊎ ((49 ≤ first) × (first ≤ 57) × AreDigits others)

-- each number of the tree is one
abbrev pub HasNumbers : Written → Type 0
HasNumbers (Number digits) = IsWrittenNumber digits
HasNumbers (Fork digits left right) = IsWrittenNumber digits × HasNumbers left × HasNumbers right

-- the number that the digits say after those of n
abbrev pub read_on : ℕ → List ℕ → ℕ
read_on n [] = n
read_on n (digit ∷ digits) = read_on (n * 10 + (digit - 48)) digits

-- the number that the digits say
abbrev pub number_written : List ℕ → ℕ
number_written digits = read_on 0 digits

-- the event tree that is written
abbrev pub written_tree : Written → EventTree
written_tree (Number digits) = Leaf (number_written digits)
written_tree (Fork digits left right) = Node (number_written digits) (written_tree left) (written_tree right)

-- the bytes of the tree as it is written
abbrev pub written_text : Written → List ℕ
written_text (Number digits) = digits
written_text (Fork digits left right) = codes "(" ++ (digits ++ (codes "," ++ (written_text left ++ (codes "," ++ (written_text right ++ codes ")")))))

-- the bytes of a stamp with its tree as it is written
abbrev pub whole_text : Id → Written → List ℕ
whole_text id tree = codes "[" ++ (id_text id ++ (codes ";" ++ (written_text tree ++ codes "]")))

-- the text is that of this id and this tree
pub record SpellsStamp (text : List ℕ) (id : Id) (tree : Written) : Type 0 where
  pub numbers : HasNumbers tree
  pub whole : text ≡ whole_text id tree

-- the text has the shape of a stamp
abbrev pub IsShaped : List ℕ → Type 0
IsShaped text = (id : Id) × (tree : Written) × SpellsStamp text id tree
