-- The lines that a session reads, one after another.
use Rattle.std.proofs.Common.{◌≡◌, Bool, true, false, IsTrue, List, [], ◌∷◌, ◌++◌, refl, sym, ap, ◌∙◌, append_assoc}
use Rattle.std.proofs.lemmas.List.{append-nil, append_cancel_left}
use Rattle.std.specs.Prelude.{ℕ, codes}
use Rattle.trace_types.specs.text.Name.{Text, is_same}
use Rattle.trace_types.specs.text.Lines.{lines}
use Rattle.line_protocol.specs.Held.{Held}
use Rattle.line_protocol.specs.LineReading.{Finds, GivesLine}
use Rattle.line_protocol.specs.declared.line.Line.{Line}
use Rattle.line_protocol.specs.declared.line.Line.TheVariants as line
use Rattle.trace_session.specs.Asking.{FindsAsked, asked_by_line}
use Rattle.trace_session.specs.Reading.{ReadsLines}
use Rattle.trace_session.specs.declared.session_lines.Asked.{Asked}

-- no line was read
pub ReadsLines-none : (given held : List ℕ) (is_ended : Bool) → ReadsLines given given held held is_ended []
ReadsLines-none given held is_ended = record {
  gave = [];
  grows = sym (append-nil given);
  first = λ rest none. ap (λ bytes. lines (bytes ++ rest)) (append-nil held);
}

gave_none : (given given' gave : List ℕ) → given' ≡ given ++ gave → given' ≡ given → gave ≡ []
gave_none given given' gave grows same = append_cancel_left given gave [] (sym grows ∙ same ∙ sym (append-nil given))

-- what is held, what came first and what came then, cut in another place
regroup : (held first then rest : List ℕ) → (held ++ (first ++ then)) ++ rest ≡ (held ++ first) ++ (then ++ rest)
regroup held first then rest = ap (λ bytes. bytes ++ rest) (sym (append_assoc held first then)) ∙ append_assoc (held ++ first) then rest

-- one line more
pub ReadsLines-line : {given given' given'' held left left' : List ℕ} {is_ended is_ended' : Bool} {found : List Text} {line : Text}
    → ReadsLines given given' held left is_ended found → GivesLine given' given'' left left' is_ended' line → (IsTrue is_ended → (given'' ≡ given') × IsTrue is_ended')
    → ReadsLines given given'' held left' is_ended' (found ++ line ∷ [])
ReadsLines-line {given = given} {given' = given'} {given'' = given''} {held = held} {left = left} {left' = left'} {found = found} {line = line} before gives at_end = record {
  gave = before.gave ++ gives.gave;
  grows = gives.grows ∙ ap (λ bytes. bytes ++ gives.gave) before.grows ∙ append_assoc given before.gave gives.gave;
  first = λ rest none.
      ap lines (regroup held before.gave gives.gave rest)
      ∙ before.first (gives.gave ++ rest) (λ ended.
      ap (λ bytes. bytes ++ rest) (gave_none given' given'' gives.gave gives.grows (at_end ended).0) ∙ none (at_end ended).1)
      ∙ ap (λ bytes. found ++ lines bytes) (sym (append_assoc left gives.gave rest))
      ∙ ap (λ more. found ++ more) (gives.first rest none)
      ∙ sym (append_assoc found (line ∷ []) (lines (left' ++ rest)));
}

-- more came, and no line was found in it
pub ReadsLines-more : {given given' given'' held left : List ℕ} {is_ended : Bool} (is_ended' : Bool) {found : List Text} (gave : List ℕ)
    → ReadsLines given given' held left is_ended found → given'' ≡ given' ++ gave → is_ended ≡ false
    → ReadsLines given given'' held (left ++ gave) is_ended' found
ReadsLines-more {given = given} {held = held} {left = left} is_ended' {found = found} gave before grows goes_on = record {
  gave = before.gave ++ gave;
  grows = grows ∙ ap (λ bytes. bytes ++ gave) before.grows ∙ append_assoc given before.gave gave;
  first = λ rest none.
      ap lines (regroup held before.gave gave rest)
      ∙ before.first (gave ++ rest) (λ ended. absurd (cc))
      ∙ ap (λ bytes. found ++ lines bytes) (sym (append_assoc left gave rest));
}

-- nothing came
pub ReadsLines-same : {given given' given'' held left left' : List ℕ} {is_ended is_ended' : Bool} {found : List Text}
    → ReadsLines given given' held left is_ended found → given'' ≡ given' → left' ≡ left → (IsTrue is_ended → IsTrue is_ended')
    → ReadsLines given given'' held left' is_ended' found
ReadsLines-same {found = found} before same left_is at_end = record {
  gave = before.gave;
  grows = same ∙ before.grows;
  first = λ rest none. before.first rest (λ ended. none (at_end ended)) ∙ ap (λ bytes. found ++ lines (bytes ++ rest)) (sym left_is);
}

-- what the line that was found asks
pub FindsAsked-of : (given given' : List ℕ) (old new : Held) (found : Line) (asks : Asked) → Finds given given' old new found → asks ≡ asked_by_line found new.line → FindsAsked given given' old new asks
FindsAsked-of given given' old new line.End asks finds is = rw is finds
FindsAsked-of given given' old new line.TooLong asks (text, gives, long) is = rw is (text, gives, rw long refl, rw long refl)
FindsAsked-of given given' old new line.Whole asks (gives, fits) is = by (is_same new.line (codes "quit")) refl
  where
    by : (quit : Bool) → is_same new.line (codes "quit") ≡ quit → FindsAsked given given' old new asks
    by true quit = rw (is, quit) (new.line, gives, rw (fits, quit) refl)
    by false other = rw (is, other) (new.line, gives, rw (fits, other) refl, rw fits refl)
