-- The pieces and lines of a text with one more line in front.
use Rattle.std.proofs.Common.{◌≡◌, ◌≢◌, ℕ, true, false, eqb, List, [], ◌∷◌, ◌++◌, All, map, refl, ap, ◌∙◌}
use Rattle.std.proofs.lemmas.Bool.{ne_eqb, cond-false}
use Rattle.std.proofs.lemmas.List.Elements.{All-head, All-tail}
use Rattle.trace_types.specs.text.Lines.{onto_piece, pieces, without_return, line_of, lines}

-- a byte that is no end of line stands at the front of the first piece
pieces-cons : (byte : ℕ) (bytes : List ℕ) → byte ≢ 10 → pieces (byte ∷ bytes) ≡ onto_piece byte (pieces bytes)
pieces-cons byte bytes other = cond-false _ _ (onto_piece byte (pieces bytes)) (ne_eqb byte 10 other)

pub pieces-append_ended : (text rest : List ℕ) → All (λ byte. byte ≢ 10) text → pieces (text ++ 10 ∷ rest) ≡ record { bytes = text; is_ended = true } ∷ pieces rest
pieces-append_ended [] rest others = refl
pieces-append_ended (byte ∷ text) rest others =
    pieces-cons byte (text ++ 10 ∷ rest) (All-head (λ b. b ≢ 10) byte text others)
    ∙ ap (onto_piece byte) (pieces-append_ended text rest (All-tail (λ b. b ≢ 10) byte text others))

pub pieces-cons_unended : (byte : ℕ) (text : List ℕ) → All (λ b. b ≢ 10) (byte ∷ text) → pieces (byte ∷ text) ≡ record { bytes = byte ∷ text; is_ended = false } ∷ []
pieces-cons_unended byte [] others = pieces-cons byte [] (All-head (λ b. b ≢ 10) byte [] others)
pieces-cons_unended byte (next ∷ text) others =
    pieces-cons byte (next ∷ text) (All-head (λ b. b ≢ 10) byte (next ∷ text) others)
    ∙ ap (onto_piece byte) (pieces-cons_unended next text (All-tail (λ b. b ≢ 10) byte (next ∷ text) others))

pub lines-append_ended : (text rest : List ℕ) → All (λ byte. byte ≢ 10) text → lines (text ++ 10 ∷ rest) ≡ without_return text ∷ lines rest
lines-append_ended text rest others = ap (map line_of) (pieces-append_ended text rest others)

pub lines_unended : (text : List ℕ) → All (λ byte. byte ≢ 10) text → text ≢ [] → lines text ≡ text ∷ []
lines_unended [] others some = absurd (some refl)
lines_unended (byte ∷ text) others some = ap (map line_of) (pieces-cons_unended byte text others)

pub without_return-push : (text : List ℕ) → without_return (text ++ 13 ∷ []) ≡ text
without_return-push [] = refl
without_return-push (byte ∷ []) = refl
without_return-push (byte ∷ next ∷ text) = ap (λ rest. byte ∷ rest) (without_return-push (next ∷ text))

pub without_return-push_other : (text : List ℕ) (byte : ℕ) → byte ≢ 13 → without_return (text ++ byte ∷ []) ≡ text ++ byte ∷ []
without_return-push_other [] byte other = cond-false (eqb byte 13) [] (byte ∷ []) (ne_eqb byte 13 other)
without_return-push_other (first ∷ []) byte other = ap (λ rest. first ∷ rest) (without_return-push_other [] byte other)
without_return-push_other (first ∷ next ∷ text) byte other = ap (λ rest. first ∷ rest) (without_return-push_other (next ∷ text) byte other)
