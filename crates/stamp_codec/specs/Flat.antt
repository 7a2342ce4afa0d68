-- Texts without parentheses, and the scan of such a text.
use Rattle.std.specs.Prelude.{◌≡◌, ◌≢◌, ℕ, List, [], slice_index}
use Rattle.stamp_codec.specs.declared.scan.Awaited.{Awaited}
use Rattle.stamp_codec.specs.declared.scan.Awaited.TheVariants.{Start, Node, NodeEnd, LeafDigits, Number, NumberDigits, Comma, Nothing}
use Rattle.stamp_codec.specs.declared.scan.Scan.{Scan}

-- no byte of the text opens a parenthesis
abbrev pub OpensNowhere : List ℕ → Type 0
OpensNowhere text = (place : ℕ) → slice_index text place ≢ 40

-- this may come outside of all parentheses
abbrev pub IsOutside : Awaited → Type 0
IsOutside Start = Unit {0}
IsOutside (Node part) = Unit {0}
IsOutside (NodeEnd part) = Unit {0}
IsOutside LeafDigits = Unit {0}
IsOutside Number = ⊥
IsOutside NumberDigits = ⊥
IsOutside Comma = ⊥
IsOutside Nothing = Unit {0}

-- the scan is inside no parenthesis
pub record IsFlat (scan : Scan) : Type 0 where
  pub outside : IsOutside scan.awaited
  pub inside_none : scan.inside ≡ []
