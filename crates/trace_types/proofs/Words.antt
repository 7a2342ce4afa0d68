-- The words of a line, and the line that has them.
use Rattle.std.proofs.Common.{◌≡◌, ◌≢◌, ◌⊎◌, ℕ, ◌<◌, Bool, true, false, eqb, List, [], ◌∷◌, ◌++◌, length, refl, sym, ap, ◌∙◌, inl, inr, arith}
use Rattle.std.specs.List.{list_all, AllByRecursion}
use Rattle.std.proofs.lemmas.Bool.{false≢true, and_parts, cases_eq, eq-eqb, ne_eqb, cond-true, cond-false, cond_both}
use Rattle.trace_types.specs.text.Name.{Text}
use Rattle.trace_types.specs.text.Reading.{onto, words}

-- the text has no blank
abbrev pub IsOneWord : Text → Type 0
IsOneWord text = AllByRecursion (λ byte. byte ≢ 32) text

pub IsOneWord-from_test : (test : ℕ → Bool) → test 32 ≡ false → (text : Text) → list_all test text ≡ true → IsOneWord text
IsOneWord-from_test test refused [] all = tt
IsOneWord-from_test test refused (byte ∷ text) all =
    let parts = and_parts (test byte) (list_all test text) all in
    (λ same. false≢true (sym refused ∙ sym (ap test same) ∙ parts.0), IsOneWord-from_test test refused text parts.1)

words_blank : (bytes : Text) → words (32 ∷ bytes) ≡ [] ∷ words bytes
words_blank bytes = refl

words_other : (byte : ℕ) (bytes : Text) → byte ≢ 32 → words (byte ∷ bytes) ≡ onto byte (words bytes)
words_other byte bytes other = cond-false (eqb byte 32) ([] ∷ words bytes) (onto byte (words bytes)) (ne_eqb byte 32 other)

pub words-append : (word bytes : Text) → IsOneWord word → words (word ++ 32 ∷ bytes) ≡ word ∷ words bytes
words-append [] bytes others = refl
words-append (byte ∷ word) bytes others = words_other byte (word ++ 32 ∷ bytes) others.0 ∙ ap (onto byte) (words-append word bytes others.1)

pub words_one : (word : Text) → IsOneWord word → words word ≡ word ∷ []
words_one [] others = refl
words_one (byte ∷ word) others = words_other byte word others.0 ∙ ap (onto byte) (words_one word others.1)

-- the line of these words, with single blanks between them
abbrev pub joined : List Text → Text
joined [] = []
joined (word ∷ []) = word
joined (word ∷ next ∷ words) = word ++ 32 ∷ joined (next ∷ words)

joined-onto : (byte : ℕ) (words : List Text) → joined (onto byte words) ≡ byte ∷ joined words
joined-onto byte [] = refl
joined-onto byte (word ∷ []) = refl
joined-onto byte (word ∷ next ∷ words) = refl

joined_blank : (words : List Text) → 0 < length words → joined ([] ∷ words) ≡ 32 ∷ joined words
joined_blank [] some = absurd (omega arith)
joined_blank (word ∷ words) some = refl

length-onto : (byte : ℕ) (words : List Text) → 0 < length (onto byte words)
length-onto byte [] = omega arith
length-onto byte (word ∷ words) = omega arith

length-words : (line : Text) → 0 < length (words line)
length-words [] = omega arith
length-words (byte ∷ line) = cond_both (eqb byte 32) ([] ∷ words line) (onto byte (words line)) (λ found. 0 < length found) (λ _. omega arith) (λ _. length-onto byte (words line))

pub joined-words : (line : Text) → joined (words line) ≡ line
joined-words [] = refl
joined-words (byte ∷ line) = at (cases_eq byte 32) (joined-words line)
  where
    at : (byte ≡ 32) ⊎ (byte ≢ 32) → joined (words line) ≡ line → joined (words (byte ∷ line)) ≡ byte ∷ line
    at (inl blank) known =
        ap joined (cond-true (eqb byte 32) ([] ∷ words line) (onto byte (words line)) (eq-eqb byte 32 blank))
        ∙ joined_blank (words line) (length-words line)
        ∙ ap (λ b. b ∷ joined (words line)) (sym blank)
        ∙ ap (λ rest. byte ∷ rest) known
    at (inr other) known = ap joined (words_other byte line other) ∙ joined-onto byte (words line) ∙ ap (λ rest. byte ∷ rest) known
