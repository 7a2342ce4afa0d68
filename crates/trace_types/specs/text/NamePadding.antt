-- How a name lies in its 24 bytes: the text, then zeros. They are read as three words of eight bytes.
use Rattle.std.specs.Prelude.{ℕ, ◌-◌, List, ◌++◌, length, take, drop, replicate}
use Rattle.std.specs.Int.{w64, from_le_bytes}

-- the text, and zeros up to 24 bytes
abbrev pub padded : List ℕ → List ℕ
padded text = text ++ replicate (24 - length text) 0

-- the word of the eight bytes from this place on
unfoldable pub word_at : ℕ → List ℕ → ℕ
word_at start bytes = from_le_bytes w64 (take 8 (drop start bytes))

-- all three words
abbrev pub words_of : List ℕ → ℕ × ℕ × ℕ
words_of bytes = (word_at 0 bytes, word_at 8 bytes, word_at 16 bytes)
