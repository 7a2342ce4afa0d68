-- Lines that were found, and what all lines are then.
use Rattle.std.proofs.Common.{◌≡◌, ℕ, suc, ◌+◌, Bool, IsTrue, true, false, inl, inr, Option, Some, None, List, [], ◌∷◌, ◌++◌, length, refl, sym, ap, subst, ◌∙◌, arith, length-append, append_assoc}
use Rattle.std.proofs.lemmas.List.{append-nil}
use Rattle.trace_types.specs.text.Name.{Text}
use Rattle.trace_types.specs.text.Lines.{lines}
use Rattle.line_protocol.specs.Held.{Held}
use Rattle.line_protocol.specs.LineReading.{HasRead, GivesLine}
use Rattle.line_protocol.specs.Source.{Given}
use Rattle.line_protocol.proofs.LineReadingLemmas.{HasRead-line, HasRead-end, HasRead-ended}
use Rattle.trace_export.specs.declared.header.Header.{Header}
use Rattle.trace_export.specs.Heading.{AreParts, IsHeader, IsNoHeader, lines_ahead}
use Rattle.trace_export.specs.ReadTo.{WasReadTo, WasReadToEnd}

-- the last of the lines that were found was read to its end
pub was_read_to : {held : Held} {found : List Text} (before after : Given) (read : HasRead before.bytes after.bytes held found) → (IsTrue held.is_ended → WasReadToEnd before after)
    → WasReadTo (length found) read.came before after
was_read_to {held} {found} before after read told = by held.is_ended refl
  where
    by : (b : Bool) → held.is_ended ≡ b → WasReadTo (length found) read.came before after
    by true is = inr (told is)
    by false is = inl (HasRead-ended read is)

-- more lines of events behind those in parts
pub parts_more : (header : Option Header) (found events : List Text) (line : Text) (rest : List Text) → AreParts found header events → (header ≡ None → events ≡ [] → IsNoHeader line)
    → AreParts (found ++ line ∷ rest) header (events ++ line ∷ rest)
parts_more None found [] line rest parts none = (ap (λ these. these ++ line ∷ rest) parts.0, none refl refl)
parts_more None found (first ∷ events) line rest parts none = (ap (λ these. these ++ line ∷ rest) parts.0, parts.1)
parts_more (Some header) found events line rest parts none = (parts.0, ap (λ these. these ++ line ∷ rest) parts.1, parts.2)

-- there are as many lines as it says
pub parts_count : (header : Option Header) (found events : List Text) → AreParts found header events → length found ≡ lines_ahead header + length events
parts_count None found events parts = omega (arith, ap length parts.0)
parts_count (Some header) found events parts = omega (arith, ap length parts.1)

pub no_texts : (events : List Text) → length events ≡ 0 → events ≡ []
no_texts [] counted = refl
no_texts (line ∷ events) counted = absurd (omega (arith, counted))

-- the first line is a header
pub first_found : {start given given' : List ℕ} {held held' : Held} {header : Option Header} {found events : List Text} {line : Text} (first : Header) → HasRead start given held found → AreParts found header events
    → GivesLine given given' held.left held'.left held'.is_ended line → (IsTrue held.is_ended → (given' ≡ given) × IsTrue held'.is_ended)
    → header ≡ None → events ≡ [] → IsHeader line first → HasRead start given' held' (found ++ line ∷ []) × AreParts (found ++ line ∷ []) (Some first) []
first_found {header = None} {line = line} first read parts gives at_end headless empty is = (HasRead-line read gives at_end, (line, ap (λ these. these ++ line ∷ []) (parts.0 ∙ empty), is))
first_found {header = Some other} first read parts gives at_end headless empty is = absurd (cc headless)

-- At the end of the input they are all lines. Of their parts it is known what is told.
pub found_to_end : (IsTold : List ℕ → Type 0) (before after : Given) (held : Held) (header : Option Header) (found events : List Text) → HasRead before.bytes after.bytes held found → AreParts found header events → held.left ≡ []
    → WasReadToEnd before after → ((bytes : List ℕ) → AreParts (lines bytes) header events → IsTold bytes)
    → (came : List ℕ) × (after.bytes ≡ before.bytes ++ came) × ((rest : List ℕ) → (IsTrue after.has_ended → rest ≡ []) → IsTold (came ++ rest))
found_to_end IsTold before after held header found events read parts none told tells = (
  read.came,
  read.grows,
  λ rest ends.
      let all : lines (read.came ++ rest) ≡ found = ap (λ more. lines (read.came ++ more)) (ends told.0.0) ∙ ap lines (append-nil read.came) ∙ HasRead-end read none in
      tells (read.came ++ rest) (subst (λ (these : List Text). AreParts these header events) (sym all) parts),
)

-- One line more was read to its end. Of the parts of all lines it is known what is told.
pub found_line : (IsTold : List ℕ → Type 0) (before after : Given) (given : List ℕ) (held held' : Held) (header : Option Header) (found events : List Text) (line : Text) (number : ℕ) → HasRead before.bytes given held found
    → AreParts found header events → GivesLine given after.bytes held.left held'.left held'.is_ended line → (IsTrue held.is_ended → (after.bytes ≡ given) × IsTrue held'.is_ended)
    → (IsTrue held'.is_ended → WasReadToEnd before after) → (header ≡ None → events ≡ [] → IsNoHeader line) → number ≡ lines_ahead header + suc (length events)
    → ((bytes : List ℕ) (behind : List Text) → AreParts (lines bytes) header (events ++ line ∷ behind) → IsTold bytes)
    → (came : List ℕ) × (after.bytes ≡ before.bytes ++ came) × WasReadTo number came before after × ((rest : List ℕ) → (IsTrue after.has_ended → rest ≡ []) → IsTold (came ++ rest))
found_line IsTold before after given held held' header found events line number earlier parts gives at_end told none counts tells =
    let read : HasRead before.bytes after.bytes held' (found ++ line ∷ []) = HasRead-line earlier gives at_end in
    let counted : length (found ++ line ∷ []) ≡ number = omega (arith, counts, parts_count header found events parts, length-append found (line ∷ [])) in (
      read.came,
      read.grows,
      subst (λ n. WasReadTo n read.came before after) counted (was_read_to before after read told),
      λ rest ends.
          let behind = lines (held'.left ++ rest) in
          let all : lines (read.came ++ rest) ≡ found ++ line ∷ behind = read.so_far rest (λ ended. ends (told ended).0.0) ∙ append_assoc found (line ∷ []) behind in
          tells (read.came ++ rest) behind (subst (λ (these : List Text). AreParts these header (events ++ line ∷ behind)) (sym all) (parts_more header found events line behind parts none)),
    )
