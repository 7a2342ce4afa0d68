-- The lines of bytes.
use Rattle.std.specs.Prelude.{ℕ, Bool, true, false, List, [], ◌∷◌, length, map, if◌then◌else◌, ◌==◌, nat_lt}
use Rattle.trace_types.specs.text.Name.{Text}

-- what lies between two ends of line, and whether an end of line (byte 10) follows it
pub record Piece : Type 0 where
  pub bytes : Text
  pub is_ended : Bool

-- the byte at the front of the first piece, which is a piece of its own where there is none
abbrev pub onto_piece : ℕ → List Piece → List Piece
onto_piece byte [] = record { bytes = byte ∷ []; is_ended = false } ∷ []
onto_piece byte (piece ∷ pieces) = record { bytes = byte ∷ piece.bytes; is_ended = piece.is_ended } ∷ pieces

-- the bytes, cut after each end of line
abbrev pub pieces : List ℕ → List Piece
pieces [] = []
pieces (byte ∷ bytes) = if byte == 10 then record { bytes = []; is_ended = true } ∷ pieces bytes else onto_piece byte (pieces bytes)

-- the text without one carriage return (byte 13) at its end
abbrev pub without_return : Text → Text
without_return [] = []
without_return (byte ∷ []) = if byte == 13 then [] else byte ∷ []
without_return (byte ∷ next ∷ bytes) = byte ∷ without_return (next ∷ bytes)

-- A carriage return right before the end of line belongs to that end.
abbrev pub line_of : Piece → Text
line_of piece = if piece.is_ended then without_return piece.bytes else piece.bytes

-- the lines
abbrev pub lines : List ℕ → List Text
lines bytes = map line_of (pieces bytes)

-- more than so many bytes
abbrev pub is_longer_than : ℕ → Text → Bool
is_longer_than most line = nat_lt most (length line)

-- more bytes than a line of requests may have
abbrev pub is_too_long : Text → Bool
is_too_long line = is_longer_than 200 line
