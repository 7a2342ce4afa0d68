-- What is read is what is spelled.
use Rattle.std.proofs.Common.{◌≡◌, ◌↔◌, ◌⊎◌, ℕ, true, false, List, [], ◌∷◌, ◌++◌, length, Option, Some, None, IsTrue, option_map, codes, decimal, cond, refl, sym, ap, ap₂, subst, ◌∙◌, inl, inr, append_assoc}
use Rattle.std.specs.List.{list_all}
use Rattle.std.proofs.lemmas.Bool.{cases_Bool, and_parts, cond-true, cond-false}
use Rattle.std.proofs.lemmas.Option.{none-some, same_Some, cond_some}
use Rattle.trace_types.specs.text.Name.{Text, is_same, is_name, is_name_byte, is_between}
use Rattle.trace_types.specs.text.Text.{request_text, IsNumber, CanBeWritten, Spells}
use Rattle.trace_types.specs.text.Reading.{is_digit, words, number_of, name_of, both, with_name, with_names, with_number, with_numbers, with_nothing, request_of_words, request_of, addressed_by_words, addressed_by}
use Rattle.trace_types.proofs.Names.{is_same_iff}
use Rattle.trace_types.proofs.NumberTexts.{number_of_iff, list_all-decimal}
use Rattle.trace_types.proofs.Words.{IsOneWord, IsOneWord-from_test, words-append, words_one, joined, joined-words}
use Rattle.trace_types.specs.declared.request.Request.{Request}
use Rattle.trace_types.specs.declared.request.Request.TheVariants.{Local, Spawn, Send, Recv, End, Join, Order, Past, Concurrent, Cut, Event, Stamp, Task, Message, Count}

option_map_some : {A B : Type 0} (f : A → B) (o : Option A) (y : B) → option_map f o ≡ Some y → (x : A) × (o ≡ Some x) × (f x ≡ y)
option_map_some f None y is = absurd (none-some y is)
option_map_some f (Some x) y is = (x, refl, same_Some (f x) y is)

both_some : {A B : Type 0} (o : Option A) (p : Option B) (z : A × B) → both o p ≡ Some z → (o ≡ Some z.0) × (p ≡ Some z.1)
both_some {A} {B} None p z is = absurd (none-some {A = A × B} z is)
both_some {A} {B} (Some x) p z is =
    let found = option_map_some (λ y. (x, y)) p z is in
    (ap Some (ap (λ (pair : A × B). pair.0) found.2), found.1 ∙ ap Some (ap (λ (pair : A × B). pair.1) found.2))

-- ---- the arguments that are read

with_name_some : (make : Text → Request) (arguments : List Text) (request : Request) → with_name make arguments ≡ Some request → (name : Text) × (arguments ≡ name ∷ []) × IsTrue (is_name name) × (make name ≡ request)
with_name_some make [] request reads = absurd (none-some request reads)
with_name_some make (name ∷ []) request reads =
    let found = option_map_some make (name_of name) request reads in
    let named = cond_some (is_name name) name found.0 found.1 in
    (name, refl, named.0, ap make named.1 ∙ found.2)
with_name_some make (name ∷ next ∷ arguments) request reads = absurd (none-some request reads)

with_names_some : (make : Text → Text → Request) (arguments : List Text) (request : Request) → with_names make arguments ≡ Some request → (a b : Text) × (arguments ≡ a ∷ b ∷ []) × IsTrue (is_name a) × IsTrue (is_name b) × (make a b ≡ request)
with_names_some make [] request reads = absurd (none-some request reads)
with_names_some make (a ∷ []) request reads = absurd (none-some request reads)
with_names_some make (a ∷ b ∷ []) request reads =
    let made = option_map_some (λ (names : Text × Text). make names.0 names.1) (both (name_of a) (name_of b)) request reads in
    let found = both_some (name_of a) (name_of b) made.0 made.1 in
    let first = cond_some (is_name a) a made.0.0 found.0 in
    let second = cond_some (is_name b) b made.0.1 found.1 in
    (a, b, refl, first.0, second.0, ap₂ make first.1 second.1 ∙ made.2)
with_names_some make (a ∷ b ∷ next ∷ arguments) request reads = absurd (none-some request reads)

with_number_some : (make : ℕ → Request) (arguments : List Text) (request : Request) → with_number make arguments ≡ Some request → (n : ℕ) × (arguments ≡ decimal n ∷ []) × IsNumber n × (make n ≡ request)
with_number_some make [] request reads = absurd (none-some request reads)
with_number_some make (n ∷ []) request reads =
    let found = option_map_some make (number_of n) request reads in
    let number = (number_of_iff n found.0).0 found.1 in
    (found.0, ap (λ x. x ∷ []) number.1, number.0, found.2)
with_number_some make (n ∷ next ∷ arguments) request reads = absurd (none-some request reads)

with_numbers_some : (make : ℕ → ℕ → Request) (arguments : List Text) (request : Request) → with_numbers make arguments ≡ Some request → (a b : ℕ) × (arguments ≡ decimal a ∷ decimal b ∷ []) × IsNumber a × IsNumber b × (make a b ≡ request)
with_numbers_some make [] request reads = absurd (none-some request reads)
with_numbers_some make (a ∷ []) request reads = absurd (none-some request reads)
with_numbers_some make (a ∷ b ∷ []) request reads =
    let made = option_map_some (λ (numbers : ℕ × ℕ). make numbers.0 numbers.1) (both (number_of a) (number_of b)) request reads in
    let found = both_some (number_of a) (number_of b) made.0 made.1 in
    let first = (number_of_iff a made.0.0).0 found.0 in
    let second = (number_of_iff b made.0.1).0 found.1 in
    (made.0.0, made.0.1, ap₂ (λ x y. x ∷ y ∷ []) first.1 second.1, first.0, second.0, made.2)
with_numbers_some make (a ∷ b ∷ next ∷ arguments) request reads = absurd (none-some request reads)

with_nothing_some : (made : Request) (arguments : List Text) (request : Request) → with_nothing made arguments ≡ Some request → (arguments ≡ []) × (made ≡ request)
with_nothing_some made [] request reads = (refl, same_Some made request reads)
with_nothing_some made (next ∷ arguments) request reads = absurd (none-some request reads)

-- ---- what is read is spelled

-- the line of these words spells the request
abbrev IsSpelledBy : List Text → Request → Type 0
IsSpelledBy words request = CanBeWritten request × (joined words ≡ request_text request)

-- a keyword and one name
IsSpelledBy-name : (make : Text → Request) (key keyword : Text) (arguments : List Text) (request : Request)
    → ((name : Text) → IsTrue (is_name name) → IsSpelledBy (key ∷ name ∷ []) (make name))
    → keyword ≡ key → with_name make arguments ≡ Some request → IsSpelledBy (keyword ∷ arguments) request
IsSpelledBy-name make key keyword arguments request spelled is reads =
    let found = with_name_some make arguments request reads in
    let one = spelled found.0 found.2 in
    (subst CanBeWritten found.3 one.0, ap₂ (λ k more. joined (k ∷ more)) is found.1 ∙ one.1 ∙ ap request_text found.3)

-- a keyword and two names
IsSpelledBy-names : (make : Text → Text → Request) (key keyword : Text) (arguments : List Text) (request : Request)
    → ((a b : Text) → IsTrue (is_name a) → IsTrue (is_name b) → IsSpelledBy (key ∷ a ∷ b ∷ []) (make a b))
    → keyword ≡ key → with_names make arguments ≡ Some request → IsSpelledBy (keyword ∷ arguments) request
IsSpelledBy-names make key keyword arguments request spelled is reads =
    let found = with_names_some make arguments request reads in
    let two = spelled found.0 found.1 found.3 found.4 in
    (subst CanBeWritten found.5 two.0, ap₂ (λ k more. joined (k ∷ more)) is found.2 ∙ two.1 ∙ ap request_text found.5)

-- a keyword and one number
IsSpelledBy-number : (make : ℕ → Request) (key keyword : Text) (arguments : List Text) (request : Request)
    → ((n : ℕ) → IsNumber n → IsSpelledBy (key ∷ decimal n ∷ []) (make n))
    → keyword ≡ key → with_number make arguments ≡ Some request → IsSpelledBy (keyword ∷ arguments) request
IsSpelledBy-number make key keyword arguments request spelled is reads =
    let found = with_number_some make arguments request reads in
    let one = spelled found.0 found.2 in
    (subst CanBeWritten found.3 one.0, ap₂ (λ k more. joined (k ∷ more)) is found.1 ∙ one.1 ∙ ap request_text found.3)

IsSpelledBy-local : (keyword : Text) (arguments : List Text) (request : Request) → keyword ≡ codes "local" → with_name Local arguments ≡ Some request → IsSpelledBy (keyword ∷ arguments) request
IsSpelledBy-local keyword arguments request = IsSpelledBy-name Local (codes "local") keyword arguments request (λ name named. (named, refl))

IsSpelledBy-spawn : (keyword : Text) (arguments : List Text) (request : Request) → keyword ≡ codes "spawn" → with_names Spawn arguments ≡ Some request → IsSpelledBy (keyword ∷ arguments) request
IsSpelledBy-spawn keyword arguments request =
    IsSpelledBy-names Spawn (codes "spawn") keyword arguments request (λ a b first second. ((first, second), sym (append_assoc (codes "spawn " ++ a) (codes " ") b)))

IsSpelledBy-send : (keyword : Text) (arguments : List Text) (request : Request) → keyword ≡ codes "send" → with_names Send arguments ≡ Some request → IsSpelledBy (keyword ∷ arguments) request
IsSpelledBy-send keyword arguments request =
    IsSpelledBy-names Send (codes "send") keyword arguments request (λ a b first second. ((first, second), sym (append_assoc (codes "send " ++ a) (codes " ") b)))

IsSpelledBy-recv : (keyword : Text) (arguments : List Text) (request : Request) → keyword ≡ codes "recv" → with_names Recv arguments ≡ Some request → IsSpelledBy (keyword ∷ arguments) request
IsSpelledBy-recv keyword arguments request =
    IsSpelledBy-names Recv (codes "recv") keyword arguments request (λ a b first second. ((first, second), sym (append_assoc (codes "recv " ++ a) (codes " ") b)))

IsSpelledBy-end : (keyword : Text) (arguments : List Text) (request : Request) → keyword ≡ codes "end" → with_name End arguments ≡ Some request → IsSpelledBy (keyword ∷ arguments) request
IsSpelledBy-end keyword arguments request = IsSpelledBy-name End (codes "end") keyword arguments request (λ name named. (named, refl))

IsSpelledBy-join : (keyword : Text) (arguments : List Text) (request : Request) → keyword ≡ codes "join" → with_names Join arguments ≡ Some request → IsSpelledBy (keyword ∷ arguments) request
IsSpelledBy-join keyword arguments request =
    IsSpelledBy-names Join (codes "join") keyword arguments request (λ a b first second. ((first, second), sym (append_assoc (codes "join " ++ a) (codes " ") b)))

IsSpelledBy-past : (keyword : Text) (arguments : List Text) (request : Request) → keyword ≡ codes "past" → with_number Past arguments ≡ Some request → IsSpelledBy (keyword ∷ arguments) request
IsSpelledBy-past keyword arguments request = IsSpelledBy-number Past (codes "past") keyword arguments request (λ n small. (small, refl))

IsSpelledBy-concurrent : (keyword : Text) (arguments : List Text) (request : Request) → keyword ≡ codes "concurrent" → with_number Concurrent arguments ≡ Some request → IsSpelledBy (keyword ∷ arguments) request
IsSpelledBy-concurrent keyword arguments request = IsSpelledBy-number Concurrent (codes "concurrent") keyword arguments request (λ n small. (small, refl))

IsSpelledBy-cut : (keyword : Text) (arguments : List Text) (request : Request) → keyword ≡ codes "cut" → with_number Cut arguments ≡ Some request → IsSpelledBy (keyword ∷ arguments) request
IsSpelledBy-cut keyword arguments request = IsSpelledBy-number Cut (codes "cut") keyword arguments request (λ n small. (small, refl))

IsSpelledBy-event : (keyword : Text) (arguments : List Text) (request : Request) → keyword ≡ codes "event" → with_number Event arguments ≡ Some request → IsSpelledBy (keyword ∷ arguments) request
IsSpelledBy-event keyword arguments request = IsSpelledBy-number Event (codes "event") keyword arguments request (λ n small. (small, refl))

IsSpelledBy-stamp : (keyword : Text) (arguments : List Text) (request : Request) → keyword ≡ codes "stamp" → with_number Stamp arguments ≡ Some request → IsSpelledBy (keyword ∷ arguments) request
IsSpelledBy-stamp keyword arguments request = IsSpelledBy-number Stamp (codes "stamp") keyword arguments request (λ n small. (small, refl))

IsSpelledBy-task : (keyword : Text) (arguments : List Text) (request : Request) → keyword ≡ codes "task" → with_name Task arguments ≡ Some request → IsSpelledBy (keyword ∷ arguments) request
IsSpelledBy-task keyword arguments request = IsSpelledBy-name Task (codes "task") keyword arguments request (λ name named. (named, refl))

IsSpelledBy-message : (keyword : Text) (arguments : List Text) (request : Request) → keyword ≡ codes "message" → with_name Message arguments ≡ Some request → IsSpelledBy (keyword ∷ arguments) request
IsSpelledBy-message keyword arguments request = IsSpelledBy-name Message (codes "message") keyword arguments request (λ name named. (named, refl))

IsSpelledBy-order : (keyword : Text) (arguments : List Text) (request : Request) → keyword ≡ codes "order" → with_numbers Order arguments ≡ Some request → IsSpelledBy (keyword ∷ arguments) request
IsSpelledBy-order keyword arguments request is reads =
    let found = with_numbers_some Order arguments request reads in (
      subst CanBeWritten found.5 (found.3, found.4),
      ap₂ (λ k more. joined (k ∷ more)) is found.2
          ∙ sym (append_assoc (codes "order " ++ decimal found.0) (codes " ") (decimal found.1))
          ∙ ap request_text found.5,
    )

IsSpelledBy-count : (keyword : Text) (arguments : List Text) (request : Request) → keyword ≡ codes "count" → with_nothing Count arguments ≡ Some request → IsSpelledBy (keyword ∷ arguments) request
IsSpelledBy-count keyword arguments request is reads =
    let found = with_nothing_some Count arguments request reads in
    (subst CanBeWritten found.1 tt, ap₂ (λ k more. joined (k ∷ more)) is found.0 ∙ ap request_text found.1)

-- one keyword more: its own arguments, or what the others read
IsSpelledBy-at_keyword : (key keyword : Text) (arguments : List Text) (request : Request) (own others : Option Request) → (keyword ≡ key → own ≡ Some request → IsSpelledBy (keyword ∷ arguments) request) → (others ≡ Some request → IsSpelledBy (keyword ∷ arguments) request) → cond (is_same keyword key) own others ≡ Some request → IsSpelledBy (keyword ∷ arguments) request
IsSpelledBy-at_keyword key keyword arguments request own others at_own at_others reads = at (cases_Bool (is_same keyword key))
  where
    at : (is_same keyword key ≡ true) ⊎ (is_same keyword key ≡ false) → IsSpelledBy (keyword ∷ arguments) request
    at (inl is) = at_own ((is_same_iff keyword key).0 is) (sym (cond-true (is_same keyword key) own others is) ∙ reads)
    at (inr differs) = at_others (sym (cond-false (is_same keyword key) own others differs) ∙ reads)

IsSpelledBy-from_reading : (words : List Text) (request : Request) → request_of_words words ≡ Some request → IsSpelledBy words request
IsSpelledBy-from_reading [] request reads = absurd (none-some request reads)
IsSpelledBy-from_reading (keyword ∷ arguments) request reads =
    IsSpelledBy-at_keyword (codes "local") keyword arguments request _ _ (IsSpelledBy-local keyword arguments request)
    (IsSpelledBy-at_keyword (codes "spawn") keyword arguments request _ _ (IsSpelledBy-spawn keyword arguments request)
    (IsSpelledBy-at_keyword (codes "send") keyword arguments request _ _ (IsSpelledBy-send keyword arguments request)
    (IsSpelledBy-at_keyword (codes "recv") keyword arguments request _ _ (IsSpelledBy-recv keyword arguments request)
    (IsSpelledBy-at_keyword (codes "end") keyword arguments request _ _ (IsSpelledBy-end keyword arguments request)
    (IsSpelledBy-at_keyword (codes "join") keyword arguments request _ _ (IsSpelledBy-join keyword arguments request)
    (IsSpelledBy-at_keyword (codes "order") keyword arguments request _ _ (IsSpelledBy-order keyword arguments request)
    (IsSpelledBy-at_keyword (codes "past") keyword arguments request _ _ (IsSpelledBy-past keyword arguments request)
    (IsSpelledBy-at_keyword (codes "concurrent") keyword arguments request _ _ (IsSpelledBy-concurrent keyword arguments request)
    (IsSpelledBy-at_keyword (codes "cut") keyword arguments request _ _ (IsSpelledBy-cut keyword arguments request)
    (IsSpelledBy-at_keyword (codes "event") keyword arguments request _ _ (IsSpelledBy-event keyword arguments request)
    (IsSpelledBy-at_keyword (codes "stamp") keyword arguments request _ _ (IsSpelledBy-stamp keyword arguments request)
    (IsSpelledBy-at_keyword (codes "task") keyword arguments request _ _ (IsSpelledBy-task keyword arguments request)
    (IsSpelledBy-at_keyword (codes "message") keyword arguments request _ _ (IsSpelledBy-message keyword arguments request)
    (IsSpelledBy-at_keyword (codes "count") keyword arguments request _ _ (IsSpelledBy-count keyword arguments request)
    (λ none. absurd (none-some request none))))))))))))))))
    reads

-- ---- what is spelled is read

pub IsOneWord-from_name : (name : Text) → IsTrue (is_name name) → IsOneWord name
IsOneWord-from_name name named = IsOneWord-from_test is_name_byte refl name (and_parts (is_between 1 24 (length name)) (list_all is_name_byte name) named).1

IsOneWord-decimal : (n : ℕ) → IsNumber n → IsOneWord (decimal n)
IsOneWord-decimal n small = IsOneWord-from_test is_digit refl (decimal n) (list_all-decimal n small)

words_of_name : (name : Text) → IsTrue (is_name name) → words name ≡ name ∷ []
words_of_name name named = words_one name (IsOneWord-from_name name named)

name_of_name : (name : Text) → IsTrue (is_name name) → name_of name ≡ Some name
name_of_name name named = cond-true (is_name name) (Some name) None named

words_of_names : (a b : Text) → IsTrue (is_name a) → IsTrue (is_name b) → words (a ++ 32 ∷ b) ≡ a ∷ b ∷ []
words_of_names a b first second = words-append a b (IsOneWord-from_name a first) ∙ ap (λ more. a ∷ more) (words_of_name b second)

request_of-request_text : (request : Request) → CanBeWritten request → request_of (request_text request) ≡ Some request
request_of-request_text (Local name) named =
    ap (λ arguments. request_of_words (codes "local" ∷ arguments)) (words_of_name name named) ∙ ap (option_map Local) (name_of_name name named)
request_of-request_text (Spawn task name) named =
    ap request_of (append_assoc (codes "spawn " ++ task) (codes " ") name)
    ∙ ap (λ arguments. request_of_words (codes "spawn" ∷ arguments)) (words_of_names task name named.0 named.1)
    ∙ ap₂ (λ a b. option_map (λ (names : Text × Text). Spawn names.0 names.1) (both a b)) (name_of_name task named.0) (name_of_name name named.1)
request_of-request_text (Send task name) named =
    ap request_of (append_assoc (codes "send " ++ task) (codes " ") name)
    ∙ ap (λ arguments. request_of_words (codes "send" ∷ arguments)) (words_of_names task name named.0 named.1)
    ∙ ap₂ (λ a b. option_map (λ (names : Text × Text). Send names.0 names.1) (both a b)) (name_of_name task named.0) (name_of_name name named.1)
request_of-request_text (Recv task name) named =
    ap request_of (append_assoc (codes "recv " ++ task) (codes " ") name)
    ∙ ap (λ arguments. request_of_words (codes "recv" ∷ arguments)) (words_of_names task name named.0 named.1)
    ∙ ap₂ (λ a b. option_map (λ (names : Text × Text). Recv names.0 names.1) (both a b)) (name_of_name task named.0) (name_of_name name named.1)
request_of-request_text (End name) named =
    ap (λ arguments. request_of_words (codes "end" ∷ arguments)) (words_of_name name named) ∙ ap (option_map End) (name_of_name name named)
request_of-request_text (Join task name) named =
    ap request_of (append_assoc (codes "join " ++ task) (codes " ") name)
    ∙ ap (λ arguments. request_of_words (codes "join" ∷ arguments)) (words_of_names task name named.0 named.1)
    ∙ ap₂ (λ a b. option_map (λ (names : Text × Text). Join names.0 names.1) (both a b)) (name_of_name task named.0) (name_of_name name named.1)
request_of-request_text (Past event) small =
    ap (λ arguments. request_of_words (codes "past" ∷ arguments)) (words_one (decimal event) (IsOneWord-decimal event small))
    ∙ ap (option_map Past) ((number_of_iff (decimal event) event).1 (small, refl))
request_of-request_text (Concurrent event) small =
    ap (λ arguments. request_of_words (codes "concurrent" ∷ arguments)) (words_one (decimal event) (IsOneWord-decimal event small))
    ∙ ap (option_map Concurrent) ((number_of_iff (decimal event) event).1 (small, refl))
request_of-request_text (Cut event) small =
    ap (λ arguments. request_of_words (codes "cut" ∷ arguments)) (words_one (decimal event) (IsOneWord-decimal event small))
    ∙ ap (option_map Cut) ((number_of_iff (decimal event) event).1 (small, refl))
request_of-request_text (Event event) small =
    ap (λ arguments. request_of_words (codes "event" ∷ arguments)) (words_one (decimal event) (IsOneWord-decimal event small))
    ∙ ap (option_map Event) ((number_of_iff (decimal event) event).1 (small, refl))
request_of-request_text (Stamp event) small =
    ap (λ arguments. request_of_words (codes "stamp" ∷ arguments)) (words_one (decimal event) (IsOneWord-decimal event small))
    ∙ ap (option_map Stamp) ((number_of_iff (decimal event) event).1 (small, refl))
request_of-request_text (Task name) named =
    ap (λ arguments. request_of_words (codes "task" ∷ arguments)) (words_of_name name named) ∙ ap (option_map Task) (name_of_name name named)
request_of-request_text (Message name) named =
    ap (λ arguments. request_of_words (codes "message" ∷ arguments)) (words_of_name name named) ∙ ap (option_map Message) (name_of_name name named)
request_of-request_text (Order a b) small =
    ap request_of (append_assoc (codes "order " ++ decimal a) (codes " ") (decimal b))
    ∙ ap (λ arguments. request_of_words (codes "order" ∷ arguments))
    (words-append (decimal a) (decimal b) (IsOneWord-decimal a small.0) ∙ ap (λ more. decimal a ∷ more) (words_one (decimal b) (IsOneWord-decimal b small.1)))
    ∙ ap₂ (λ a b. option_map (λ (numbers : ℕ × ℕ). Order numbers.0 numbers.1) (both a b)) ((number_of_iff (decimal a) a).1 (small.0, refl)) ((number_of_iff (decimal b) b).1 (small.1, refl))
request_of-request_text Count can = refl

pub request_of_iff : (line : List ℕ) (request : Request) → (request_of line ≡ Some request) ↔ Spells line request
request_of_iff line request = (
  λ reads. let spelled = IsSpelledBy-from_reading (words line) request reads in (spelled.0, sym (joined-words line) ∙ spelled.1),
  λ spells. ap request_of spells.1 ∙ request_of-request_text request spells.0,
)

-- ---- the lines of several tenants

addressed_by_append : (tenant line : Text) → IsTrue (is_name tenant) → addressed_by (tenant ++ 32 ∷ line) ≡ Some (tenant, request_of line)
addressed_by_append tenant line named =
    ap addressed_by_words (words-append tenant line (IsOneWord-from_name tenant named))
    ∙ cond-true (is_name tenant) (Some (tenant, request_of line)) None named

addressed_by_words_some : (words : List Text) (tenant : Text) (request : Request) → addressed_by_words words ≡ Some (tenant, Some request) → IsTrue (is_name tenant) × CanBeWritten request × (joined words ≡ tenant ++ 32 ∷ request_text request)
addressed_by_words_some [] tenant request reads = absurd (none-some {A = Text × Option Request} (tenant, Some request) reads)
addressed_by_words_some (first ∷ []) tenant request reads =
    let found = cond_some {A = Text × Option Request} (is_name first) (first, None) (tenant, Some request) reads in
    absurd (none-some request (ap (λ (addressed : Text × Option Request). addressed.1) found.1))
addressed_by_words_some (first ∷ next ∷ words) tenant request reads =
    let found = cond_some {A = Text × Option Request} (is_name first) (first, request_of_words (next ∷ words)) (tenant, Some request) reads in
    let same : first ≡ tenant = ap (λ (addressed : Text × Option Request). addressed.0) found.1 in
    let spelled = IsSpelledBy-from_reading (next ∷ words) request (ap (λ (addressed : Text × Option Request). addressed.1) found.1) in
    (subst (λ name. IsTrue (is_name name)) same found.0, spelled.0, ap₂ (λ name rest. name ++ 32 ∷ rest) same spelled.1)

-- A line asks a request of a tenant exactly where it is the tenant's name, one blank and what spells the request.
pub addressed_by_iff : (line tenant : List ℕ) (request : Request) → (addressed_by line ≡ Some (tenant, Some request)) ↔ (IsTrue (is_name tenant) × CanBeWritten request × (line ≡ tenant ++ 32 ∷ request_text request))
addressed_by_iff line tenant request = (
  λ reads. let found = addressed_by_words_some (words line) tenant request reads in (found.0, found.1, sym (joined-words line) ∙ found.2),
  λ spells.
      ap addressed_by spells.2
      ∙ addressed_by_append tenant (request_text request) spells.0
      ∙ ap (λ (read : Option Request). Some (tenant, read)) (request_of-request_text request spells.1),
)
