-- The words behind the first blank, and numbers at the front.
use Rattle.std.specs.Prelude.{◌≡◌, ◌≤◌, ◌<◌, ◌∷◌, ℕ, Bool, ◌&&◌, ◌||◌, not, ◌==◌, true, false, List, [], length, take, slice_index, Option, None, Some, option_map}
use Rattle.std.specs.List.{list_all}
use Rattle.trace_types.specs.text.Name.{Text, is_between}
use Rattle.trace_types.specs.text.Reading.{is_digit, number_of, number_onto, words, request_of_words}
use Rattle.trace_types.specs.declared.request.Request.{Request}

-- the words of the rest, if there is one
abbrev pub words_after : Option Text → List Text
words_after None = []
words_after (Some rest) = words rest

-- The line begins with the name, and the words after it spell the request, or none.
pub record Addresses (line name : Text) (request : Option Request) : Type 0 where
  pub rest : List Text
  pub splits : words line ≡ name ∷ rest
  pub spells : request ≡ request_of_words rest

-- the number that the first word spells, and the words behind it, where it spells one
abbrev pub first_number : List Text → Option (ℕ × List Text)
first_number [] = None
first_number (word ∷ rest) = option_map (λ number. (number, rest)) (number_of word)

-- The text begins with so many digits, which spell the number. They are at most nine. If they are fewer, the next byte is no digit.
pub record LeadingNumber (text : Text) (number count : ℕ) : Type 0 where
  pub within : count ≤ length text
  pub few : count ≤ 9
  pub digits : list_all is_digit (take count text) ≡ true
  pub value : number ≡ number_onto 0 (take count text)
  pub ends : count < 9 → count < length text → is_digit (slice_index text count) ≡ false

-- whether the text has one to nine bytes, of which the first is `0` only where it is the only one
abbrev pub may_be_number : Text → Bool
may_be_number text = is_between 1 9 (length text) && ((length text == 1) || not (slice_index text 0 == 48))
