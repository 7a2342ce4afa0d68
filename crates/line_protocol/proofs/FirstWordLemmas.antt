-- How the first word begins the text.
use Rattle.std.proofs.Common.{◌≡◌, ℕ, suc, Bool, true, false, List, [], ◌∷◌, ◌++◌, ◌==◌, length, take, refl, sym, ap, ◌∙◌, subst, None, rules}
use Rattle.std.specs.Prelude.{codes}
use Rattle.std.proofs.lemmas.Bool.{eqb-true}
use Rattle.std.proofs.lemmas.Slice.Eq.{bytes_eq-Decides}
use Rattle.std.specs.Bool.{⊤}
use Rattle.trace_types.specs.text.Name.{Text, is_same}
use Rattle.trace_types.specs.text.Reading.{words, request_of_words}
use Rattle.line_protocol.proofs.WordsLemmas.{some_word}

-- the text is its first word, or begins with that word and a blank where others come
abbrev pub Begins : Text → Text → List Text → Type 0
Begins text word [] = text ≡ word
Begins text word (_ ∷ _) = take (suc (length word)) text ≡ word ++ 32 ∷ []

begins-onto : (byte : ℕ) (bytes word : Text) (others : List Text) → Begins bytes word others → Begins (byte ∷ bytes) (byte ∷ word) others
begins-onto byte bytes word [] is = ap (λ text. byte ∷ text) is
begins-onto byte bytes word (_ ∷ _) is = ap (λ text. byte ∷ text) is

abbrev BeginsAll : Text → List Text → Type 0
BeginsAll text [] = ⊤
BeginsAll text (word ∷ others) = Begins text word others

abbrev BeginsWord : Text → Type 0
BeginsWord text = (word : Text) × (others : List Text) × (words text ≡ word ∷ others) × Begins text word others

begins-step : (byte : ℕ) (bytes : Text) (b : Bool) → (byte == 32) ≡ b → BeginsWord bytes → BeginsWord (byte ∷ bytes)
begins-step byte bytes true is rest =
    let some = some_word bytes in
    ([], some.0 ∷ some.1, rw (is, some.2) refl, ap (λ first. first ∷ []) (eqb-true byte 32 is))
begins-step byte bytes false is rest = (byte ∷ rest.0, rest.1, rw (is, rest.2) refl, begins-onto byte bytes rest.0 rest.1 rest.3)

-- how each text begins
begins : (text : Text) → BeginsWord text
begins [] = ([], [], refl, refl)
begins (byte ∷ bytes) = begins-step byte bytes (byte == 32) refl (begins bytes)

-- how a text begins whose words are these
pub begins_as : (text word : Text) (others : List Text) → words text ≡ word ∷ others → Begins text word others
begins_as text word others is =
    let found = begins text in
    let P : List Text → Type 0 = λ all. BeginsAll text all in
    subst P (sym found.2 ∙ is) found.3

-- a text that begins with no such word and a blank has no such first word before others
pub not_first : (text word keyword : Text) (rest : Text) → words text ≡ word ∷ words rest → is_same (take (suc (length keyword)) text) (keyword ++ 32 ∷ []) ≡ false → is_same word keyword ≡ false
not_first text word keyword rest all other = by_same (is_same word keyword) refl
  where
    some : (first : Text) × (others : List Text) × (words rest ≡ first ∷ others)
    some = some_word rest

    begun : take (suc (length word)) text ≡ word ++ 32 ∷ []
    begun = begins_as text word (some.0 ∷ some.1) (all ∙ ap (λ others. word ∷ others) some.2)

    by_same : (b : Bool) → is_same word keyword ≡ b → b ≡ false
    by_same false is = refl
    by_same true is =
        let same : word ≡ keyword = (bytes_eq-Decides word keyword).0 is in
        let blank : take (suc (length keyword)) text ≡ keyword ++ 32 ∷ [] = rw same at begun in
        let yes : is_same (take (suc (length keyword)) text) (keyword ++ 32 ∷ []) ≡ true = (bytes_eq-Decides (take (suc (length keyword)) text) (keyword ++ 32 ∷ [])).1 blank in
        absurd (cc (yes, other))

-- what one word alone spells
pub alone_none : (word : Text) → is_same word (codes "count") ≡ false → None ≡ request_of_words (word ∷ [])
alone_none word other = rw other (search rules)
