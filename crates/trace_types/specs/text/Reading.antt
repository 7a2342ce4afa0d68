-- Which request a line spells, found from the line.
use Rattle.std.specs.Prelude.{ℕ, ◌+◌, ◌-◌, ◌*◌, Bool, ◌&&◌, ◌||◌, not, List, [], ◌∷◌, length, Option, Some, None, if◌then◌else◌, ◌==◌, codes, option_map, slice_index}
use Rattle.std.specs.List.{list_all}
use Rattle.trace_types.specs.text.Name.{Text, is_same, is_name, is_between}
use Rattle.trace_types.specs.declared.request.Request.{Request}
use Rattle.trace_types.specs.declared.request.Request.TheVariants.{Local, Spawn, Send, Recv, End, Join, Order, Past, Concurrent, Cut, Event, Stamp, Task, Message, Count}

-- the byte at the front of the first word
abbrev pub onto : ℕ → List Text → List Text
onto byte [] = (byte ∷ []) ∷ []
onto byte (word ∷ words) = (byte ∷ word) ∷ words

-- the words that single blanks divide: one more than there are blanks, some of them perhaps empty
abbrev pub words : Text → List Text
words [] = [] ∷ []
words (byte ∷ bytes) = if byte == 32 then [] ∷ words bytes else onto byte (words bytes)

-- whether the byte is a digit `0` to `9`
abbrev pub is_digit : ℕ → Bool
is_digit byte = is_between 48 57 byte

-- the number whose digits follow those of n
abbrev pub number_onto : ℕ → Text → ℕ
number_onto n [] = n
number_onto n (digit ∷ digits) = number_onto (10 * n + (digit - 48)) digits

-- whether the text is one to nine digits, of which the first is `0` only where it is the only one
abbrev pub is_number : Text → Bool
is_number text = is_between 1 9 (length text) && list_all is_digit text && ((length text == 1) || not (slice_index text 0 == 48))

-- the number that the text spells, where it spells one
abbrev pub number_of : Text → Option ℕ
number_of text = if is_number text then Some (number_onto 0 text) else None

-- the name that the text is, where it is one
abbrev pub name_of : Text → Option Text
name_of text = if is_name text then Some text else None

-- both values, where there are both
abbrev pub both : {A B : Type 0} → Option A → Option B → Option (A × B)
both None b = None
both (Some a) b = option_map (λ b. (a, b)) b

-- what is read of one argument and no more
abbrev pub only : {A : Type 0} → (Text → Option A) → List Text → Option A
only read (word ∷ []) = read word
only read arguments = None

-- what is read of two arguments and no more
abbrev pub only_two : {A : Type 0} → (Text → Option A) → List Text → Option (A × A)
only_two read (word ∷ next ∷ []) = both (read word) (read next)
only_two read arguments = None

-- the request of one name and no more
abbrev pub with_name : (Text → Request) → List Text → Option Request
with_name make arguments = option_map make (only name_of arguments)

-- the request of two names and no more
abbrev pub with_names : (Text → Text → Request) → List Text → Option Request
with_names make arguments = option_map (λ names. make names.0 names.1) (only_two name_of arguments)

-- the request of one number and no more
abbrev pub with_number : (ℕ → Request) → List Text → Option Request
with_number make arguments = option_map make (only number_of arguments)

-- the request of two numbers and no more
abbrev pub with_numbers : (ℕ → ℕ → Request) → List Text → Option Request
with_numbers make arguments = option_map (λ numbers. make numbers.0 numbers.1) (only_two number_of arguments)

-- the request that has no argument
abbrev pub with_nothing : Request → List Text → Option Request
with_nothing request [] = Some request
with_nothing request arguments = None

-- the request of a keyword and its arguments
abbrev pub request_of_words : List Text → Option Request
request_of_words [] = None
request_of_words (keyword ∷ arguments) =
    if is_same keyword (codes "local") then with_name Local arguments
    else if is_same keyword (codes "spawn") then with_names Spawn arguments
    else if is_same keyword (codes "send") then with_names Send arguments
    else if is_same keyword (codes "recv") then with_names Recv arguments
    else if is_same keyword (codes "end") then with_name End arguments
    else if is_same keyword (codes "join") then with_names Join arguments
    else if is_same keyword (codes "order") then with_numbers Order arguments
    else if is_same keyword (codes "past") then with_number Past arguments
    else if is_same keyword (codes "concurrent") then with_number Concurrent arguments
    else if is_same keyword (codes "cut") then with_number Cut arguments
    else if is_same keyword (codes "event") then with_number Event arguments
    else if is_same keyword (codes "stamp") then with_number Stamp arguments
    else if is_same keyword (codes "task") then with_name Task arguments
    else if is_same keyword (codes "message") then with_name Message arguments
    else if is_same keyword (codes "count") then with_nothing Count arguments
    else None

-- the request that the line spells, where it spells one
abbrev pub request_of : Text → Option Request
request_of line = request_of_words (words line)

-- The tenant that the line names first, and the request that the rest of it spells after one blank;
-- none where the first word is no name.
abbrev pub addressed_by_words : List Text → Option (Text × Option Request)
addressed_by_words [] = None
addressed_by_words (tenant ∷ rest) = if is_name tenant then Some (tenant, request_of_words rest) else None

abbrev pub addressed_by : Text → Option (Text × Option Request)
addressed_by line = addressed_by_words (words line)
