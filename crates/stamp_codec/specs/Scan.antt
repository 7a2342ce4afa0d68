-- One step of the scan for shape: what is awaited after a byte, or nothing where no stamp goes on with it.
use Rattle.std.specs.Prelude.{◌≡◌, ℕ, Bool, true, false, ◌==◌, ◌&&◌, nat_le, if◌then◌else◌, List, [], ◌∷◌, Option, Some, None}
use Rattle.stamp_codec.specs.declared.scan.Part.{Part}
use Rattle.stamp_codec.specs.declared.scan.Part.TheVariants.{Id, Tree}
use Rattle.stamp_codec.specs.declared.scan.nesting.Side.{Side}
use Rattle.stamp_codec.specs.declared.scan.nesting.Side.TheVariants.{Left, Right}
use Rattle.stamp_codec.specs.declared.scan.Awaited.{Awaited}
use Rattle.stamp_codec.specs.declared.scan.Awaited.TheVariants.{Start, Node, NodeEnd, LeafDigits, Number, NumberDigits, Comma, Nothing}
use Rattle.stamp_codec.specs.declared.scan.Scan.{Scan}

-- the scan that awaits this inside these parentheses
abbrev pub awaiting : Awaited → List Side → Scan
awaiting awaited inside = record { awaited = awaited; inside = inside }

-- what ends a part, and what comes behind it
abbrev pub end_of : Part → ℕ
end_of Id = 59
end_of Tree = 93

abbrev pub behind : Part → Awaited
behind Id = Node Tree
behind Tree = Nothing

-- after a whole node: the other child, the end of the node around it, or the end of the part
abbrev pub closed : Part → List Side → ℕ → Option Scan
closed part [] byte = if byte == end_of part then Some (awaiting (behind part) []) else None
closed part (Left ∷ inside) byte = if byte == 44 then Some (awaiting (Node part) (Right ∷ inside)) else None
closed part (Right ∷ inside) byte = if byte == 41 then Some (awaiting (NodeEnd part) inside) else None

abbrev pub is_digit_byte : ℕ → Bool
is_digit_byte byte = nat_le 48 byte && nat_le byte 57

-- an id begins
abbrev pub id_begun : List Side → ℕ → Option Scan
id_begun inside byte =
    if byte == 40 then Some (awaiting (Node Id) (Left ∷ inside))
    else if byte == 48 then Some (awaiting (NodeEnd Id) inside)
    else if byte == 49 then Some (awaiting (NodeEnd Id) inside)
    else None

-- a number begins; what is awaited then depends on whether digits may come next
abbrev pub number_begun : Awaited → Awaited → List Side → ℕ → Option Scan
number_begun alone with_digits inside byte =
    if byte == 48 then Some (awaiting alone inside)
    else if is_digit_byte byte then Some (awaiting with_digits inside)
    else None

-- a tree begins
abbrev pub tree_begun : List Side → ℕ → Option Scan
tree_begun inside byte =
    if byte == 40 then Some (awaiting Number inside)
    else number_begun (NodeEnd Tree) LeafDigits inside byte

-- the number of a node has ended
abbrev pub number_ended : List Side → ℕ → Option Scan
number_ended inside byte = if byte == 44 then Some (awaiting (Node Tree) (Left ∷ inside)) else None

-- what is awaited after the byte
abbrev pub stepped : Awaited → List Side → ℕ → Option Scan
stepped Start inside byte = if byte == 91 then Some (awaiting (Node Id) inside) else None
stepped (Node Id) inside byte = id_begun inside byte
stepped (Node Tree) inside byte = tree_begun inside byte
stepped (NodeEnd part) inside byte = closed part inside byte
stepped LeafDigits inside byte = if is_digit_byte byte then Some (awaiting LeafDigits inside) else closed Tree inside byte
stepped Number inside byte = number_begun Comma NumberDigits inside byte
stepped NumberDigits inside byte = if is_digit_byte byte then Some (awaiting NumberDigits inside) else number_ended inside byte
stepped Comma inside byte = number_ended inside byte
stepped Nothing inside byte = None

-- the scan went on to the next one, or no stamp goes on
abbrev pub GoesOn : Bool → Scan → Option Scan → Type 0
GoesOn true scan next = next ≡ Some scan
GoesOn false scan next = next ≡ None
