-- Lines that were found right, one more, and the verdict.
use Rattle.std.proofs.Common.{◌≡◌, ℕ, suc, ◌+◌, ◌^◌, IsTrue, true, false, ◌⊎◌, inl, inr, Option, Some, None, List, [], ◌∷◌, ◌++◌, length, refl, sym, ap, subst, ◌∙◌, arith, length-append}
use Rattle.std.proofs.lemmas.Bool.{ltb-true, ltb-false}
use Rattle.trace_types.specs.text.Name.{Text}
use Rattle.line_protocol.specs.Held.{Held, ReadingBounds, fresh_within}
use Rattle.trace_types.specs.text.Lines.{is_longer_than}
use Rattle.line_protocol.specs.LineReading.{HasRead, GivesLine, Finds, Reads}
use Rattle.line_protocol.specs.declared.line.Line.{Line}
use Rattle.line_protocol.specs.declared.line.Line.TheVariants.{Whole, TooLong, End}
use Rattle.line_protocol.specs.Source.{Given}
use Rattle.line_protocol.proofs.LineReadingLemmas.{HasRead-start, HasRead-line, has_told_end, told_once}
use Rattle.trace_export.specs.declared.placed.Placed.{Placed}
use Rattle.trace_export.specs.declared.reason.Reason.{Reason}
use Rattle.trace_export.specs.declared.checked.Checked.{Checked}
use Rattle.trace_export.specs.declared.header.Header.{Header}
use Rattle.trace_export.specs.declared.verdict.Verdict.{Verdict}
use Rattle.trace_export.specs.declared.verdict.Verdict.TheVariants.{Yes, No}
use Rattle.trace_export.specs.Edges.{Placing}
use Rattle.trace_export.specs.Heading.{AreParts, IsHeader, lines_ahead}
use Rattle.trace_export.specs.Checked.{Judges, HoldsOfFound, IsKept, IsNoFirstOf, IsTextFound, IsJudged, IsJudgedAs, StopsReading, header_in, placing_in}
use Rattle.trace_export.specs.ReadTo.{StopsAtLine, WasReadToEnd}
use Rattle.trace_export.specs.Verdict.{AreRightAfter, IsRightNext, IsFaulty, IsVerdict}
use Rattle.trace_export.proofs.FoundLines.{first_found, found_line, found_to_end, no_texts, parts_count, parts_more}

-- the bounds of the lines of an export
abbrev pub export_bounds : ReadingBounds
export_bounds = record { bytes = 65536; reads = 2 ^ 30 }

-- what is known of the end, a read since told
pub was_read_to_end : {before after : Given} {held : Held} → Reads before after (fresh_within export_bounds) held 0 → IsTrue held.is_ended → WasReadToEnd before after
was_read_to_end reads ended = (has_told_end reads ended, told_once reads ended)

-- Since the reader had given `start`, these lines were found, each of them right.
pub record FoundRight (start given : List ℕ) (held : Held) (header : Option Header) (placing : Placing) : Type 0 where
  pub found : List Text
  pub events : List Text
  pub read : HasRead start given held found
  pub parts : AreParts found header events
  pub right : AreRightAfter [] events placing
  pub counted : length events ≡ length placing

no_events : (events : List Text) (placing : Placing) → length events ≡ length placing → events ≡ [] → placing ≡ []
no_events events [] counted none = refl
no_events events (placed ∷ placing) counted none = absurd (omega (arith, counted, ap length none))

-- one more line is right
right_more : (earlier placing : Placing) (found : List Text) (line : Text) (placed : Placed) → AreRightAfter earlier found placing → IsRightNext placing line placed
    → AreRightAfter earlier (found ++ line ∷ []) (placing ++ placed ∷ [])
right_more earlier placing [] line placed right next = (
  placed,
  subst (λ (events : Placing). IsRightNext events line placed) right next,
  ap (λ events. events ++ placed ∷ []) right,
)
right_more earlier placing (first ∷ found) line placed right next =
    (right.0, right.1, right_more (earlier ++ right.0 ∷ []) placing found line placed right.2 next)

pub found_none : (start : List ℕ) (held : Held) → held.left ≡ [] → FoundRight start start held None []
found_none start held none = record { found = []; events = []; read = HasRead-start start held none; parts = (refl, tt); right = refl; counted = refl }

found_more : {start given given' : List ℕ} {held held' : Held} {header : Option Header} {placing : Placing} {line : Text} {placed : Placed} → FoundRight start given held header placing
    → GivesLine given given' held.left held'.left held'.is_ended line → (IsTrue held.is_ended → (given' ≡ given) × IsTrue held'.is_ended)
    → IsNoFirstOf header placing line → IsRightNext placing line placed → FoundRight start given' held' header (placing ++ placed ∷ [])
found_more {header = header} {placing = placing} {line = line} {placed = placed} before gives at_end none next = record {
  found = before.found ++ line ∷ [];
  events = before.events ++ line ∷ [];
  read = HasRead-line before.read gives at_end;
  parts = parts_more header before.found before.events line [] before.parts (λ headless empty. none headless (no_events before.events placing before.counted empty));
  right = right_more [] placing before.events line placed before.right next;
  counted = omega (arith, length-append before.events (line ∷ []), length-append placing (placed ∷ []), before.counted);
}

-- the first line is a header
found_header : {start given given' : List ℕ} {held held' : Held} {header : Option Header} {placing : Placing} {line : Text} (first : Header) → FoundRight start given held header placing
    → GivesLine given given' held.left held'.left held'.is_ended line → (IsTrue held.is_ended → (given' ≡ given) × IsTrue held'.is_ended)
    → header ≡ None → placing ≡ [] → IsHeader line first → FoundRight start given' held' (Some first) []
found_header {line = line} first before gives at_end headless empty is =
    let to = first_found first before.read before.parts gives at_end headless (no_texts before.events (before.counted ∙ ap length empty)) is in
    record { found = before.found ++ line ∷ []; events = []; read = to.0; parts = to.1; right = refl; counted = refl }

-- At the end of the input all lines are right.
judges_yes : (before after : Given) (held : Held) (header : Option Header) (placing : Placing) → FoundRight before.bytes after.bytes held header placing → held.left ≡ [] → WasReadToEnd before after
    → Judges before after (Yes (length placing))
judges_yes before after held header placing found none told =
    let to = found_to_end (λ bytes. IsVerdict bytes (Yes (length placing))) before after held header found.found found.events found.read found.parts none told
    (λ bytes parts. record { header = header; events = found.events; parts = parts; judged = (sym found.counted, (placing, found.right)) }) in
    record { came = to.0; grows = to.1; all = told; is_due = to.2 }

-- A line that was read to its end is faulty.
judges_no : (before after : Given) (given : List ℕ) (held held' : Held) (header : Option Header) (placing : Placing) (line : Text) (reason : Reason) (number : ℕ) → FoundRight before.bytes given held header placing
    → GivesLine given after.bytes held.left held'.left held'.is_ended line → (IsTrue held.is_ended → (after.bytes ≡ given) × IsTrue held'.is_ended)
    → (IsTrue held'.is_ended → WasReadToEnd before after) → IsNoFirstOf header placing line → IsFaulty reason placing line → number ≡ lines_ahead header + suc (length placing)
    → Judges before after (No number reason)
judges_no before after given held held' header placing line reason number found gives at_end told none faulty counts =
    let to = found_line (λ bytes. IsVerdict bytes (No number reason)) before after given held held' header found.found found.events line number found.read found.parts gives at_end told
    (λ headless empty. none headless (no_events found.events placing found.counted empty)) (omega (arith, counts, found.counted)) (λ bytes behind parts. record {
      header = header;
      events = found.events ++ line ∷ behind;
      parts = parts;
      judged = record { before = found.events; line = line; rest = behind; splits = refl; counts = omega (arith, counts, found.counted); placing = placing; right = found.right; faulty = faulty };
    }) in
    record { came = to.0; grows = to.1; all = to.2; is_due = to.3 }

-- a line was found, with this text
text_found : {given given' : List ℕ} (old new : Held) (found : Line) → (new.bounds ≡ export_bounds) → Finds given given' old new found → (found ≡ End → ⊥)
    → (text : Text) × GivesLine given given' old.left new.left new.is_ended text × IsTextFound found new.line text
text_found old new Whole bounds finds some = (new.line, finds.0, (refl, omega (arith, ltb-false 65536 (length new.line) (subst (λ (b : ReadingBounds). is_longer_than b.bytes new.line ≡ false) bounds finds.1))))
text_found old new TooLong bounds finds some = (finds.0, finds.1, ltb-true 65536 (length finds.0) (subst (λ (b : ReadingBounds). is_longer_than b.bytes finds.0 ≡ true) bounds finds.2))
text_found old new End bounds finds some = absurd (some refl)

-- what holds at the end, or of the line that was found
pub end_or_line : {given given' : List ℕ} {at_end : Type 0} {of_text : Text → Type 0} (old new : Held) (found : Line) → new.bounds ≡ export_bounds → Finds given given' old new found
    → HoldsOfFound found new.line at_end of_text → (Finds given given' old new End × at_end) ⊎ ((text : Text) × GivesLine given given' old.left new.left new.is_ended text × of_text text)
end_or_line old new End bounds finds holds = inl (finds, holds)
end_or_line old new Whole bounds finds holds =
    let text = text_found old new Whole bounds finds (λ same. absurd (cc)) in
    inr (text.0, text.1, holds text.0 text.2)
end_or_line old new TooLong bounds finds holds =
    let text = text_found old new TooLong bounds finds (λ same. absurd (cc)) in
    inr (text.0, text.1, holds text.0 text.2)

-- What was found next: since `before` the lines were right, and of the source and what is held it is known how they went on.
pub record FindsOn (before middle after : Given) (held held' : Held) (checked : Checked) (found : Line) : Type 0 where
  pub right : FoundRight before.bytes middle.bytes held (header_in checked) (placing_in checked)
  pub bounds : held'.bounds ≡ export_bounds
  pub finds : Finds middle.bytes after.bytes held held' found
  pub at_end : IsTrue held.is_ended → (after.bytes ≡ middle.bytes) × IsTrue held'.is_ended
  pub told : IsTrue held'.is_ended → WasReadToEnd before after

judges_as : {before middle after : Given} {held held' : Held} {old : Checked} {found : Line} (new : Checked) (verdict : Verdict) (text : Text) → FindsOn before middle after held held' old found
    → GivesLine middle.bytes after.bytes held.left held'.left held'.is_ended text → IsJudgedAs (Some verdict) old new text → Judges before after verdict
judges_as new (Yes count) text on gives judged = absurd judged
judges_as {before} {middle} {after} {held} {held'} {old} new (No number reason) text on gives judged =
    judges_no before after middle.bytes held held' (header_in old) (placing_in old) text reason number on.right gives on.at_end on.told judged.1.no_header judged.1.faulty judged.0

-- the verdict with which a check ends
pub judges_over : (before middle after : Given) (held held' : Held) (old new : Checked) (found : Line) (verdict : Verdict) → FindsOn before middle after held held' old found
    → IsJudged found held'.line (Some verdict) old new → Judges before after verdict
judges_over before middle after held held' old new found verdict on judged = elim (end_or_line held held' found on.bounds on.finds judged) [
  | inl over ↦
      let same : verdict ≡ Yes (length (placing_in old)) = cc over.1 in
      subst (Judges before after) (sym same)
      (judges_yes before after held (header_in old) (placing_in old) (subst (λ bytes. FoundRight before.bytes bytes held (header_in old) (placing_in old)) (sym over.0.0) on.right) over.0.1 (on.told over.0.3))
  | inr line ↦ judges_as new verdict line.0 on line.1 line.2
]

right_on : {before middle after : Given} {held held' : Held} {old : Checked} {found : Line} (new : Checked) (text : Text) → FindsOn before middle after held held' old found
    → GivesLine middle.bytes after.bytes held.left held'.left held'.is_ended text → IsJudgedAs None old new text
    → FoundRight before.bytes after.bytes held' (header_in new) (placing_in new) × IsKept new
right_on {before} {after = after} {held' = held'} new text on gives (inl headed) = (
  subst (λ (header : Option Header). FoundRight before.bytes after.bytes held' header (placing_in new)) (sym headed.headed)
      (subst (λ (placing : Placing). FoundRight before.bytes after.bytes held' (Some headed.first) placing) (sym headed.none)
      (found_header headed.first on.right gives on.at_end headed.begins.0 headed.begins.1 headed.is)),
  headed.kept,
)
right_on {before} {after = after} {held' = held'} {old} new text on gives (inr kept) = (
  subst (λ (header : Option Header). FoundRight before.bytes after.bytes held' header (placing_in new)) (sym kept.same)
      (subst (λ (placing : Placing). FoundRight before.bytes after.bytes held' (header_in old) placing) (sym kept.more) (found_more on.right gives on.at_end kept.no_header kept.right)),
  kept.kept,
)

-- the check goes on
pub judged_right : (before middle after : Given) (held held' : Held) (old new : Checked) (found : Line) → FindsOn before middle after held held' old found
    → IsJudged found held'.line None old new → FoundRight before.bytes after.bytes held' (header_in new) (placing_in new) × IsKept new
judged_right before middle after held held' old new found on judged = elim (end_or_line held held' found on.bounds on.finds judged) [
  | inl over ↦ absurd (cc over.1)
  | inr line ↦ right_on new line.0 on line.1 line.2
]

-- how many lines were found that are kept as these
abbrev pub line_count : Option Header → Placing → ℕ
line_count header placing = lines_ahead header + length placing

pub found_count : {start given : List ℕ} {held : Held} {header : Option Header} {placing : Placing} (right : FoundRight start given held header placing) → length right.found ≡ line_count header placing
found_count {header = header} right = omega (arith, parts_count header right.found right.events right.parts, right.counted)

counts_as : (old new : Checked) (text : Text) → IsJudgedAs None old new text
    → line_count (header_in new) (placing_in new) ≡ suc (line_count (header_in old) (placing_in old))
counts_as old new text (inl headed) =
    omega (arith, ap lines_ahead headed.headed, ap length headed.none, ap lines_ahead headed.begins.0, ap length headed.begins.1)
counts_as old new text (inr kept) =
    omega (arith, ap lines_ahead kept.same, ap length kept.more, length-append (placing_in old) (kept.placed ∷ []))

-- a line that is right is one more
pub counts_more : (before middle after : Given) (held held' : Held) (old new : Checked) (found : Line) → FindsOn before middle after held held' old found
    → IsJudged found held'.line None old new → line_count (header_in new) (placing_in new) ≡ suc (line_count (header_in old) (placing_in old))
counts_more before middle after held held' old new found on judged = elim (end_or_line held held' found on.bounds on.finds judged) [
  | inl over ↦ absurd (cc over.1)
  | inr line ↦ counts_as old new line.0 line.2
]

module _ {R : Type 0} (seen : R → Given) (reader reader' : R) (old : Checked) where
  abbrev pub StopsNext : Type 0
  StopsNext = StopsAtLine seen (suc (line_count (header_in old) (placing_in old))) reader reader'

  stops_as : (new : Checked) (verdict : Verdict) (text : Text) → StopsNext → IsJudgedAs (Some verdict) old new text → StopsReading seen reader reader' verdict
  stops_as new (Yes count) text stops judged = absurd judged
  stops_as new (No number reason) text stops judged =
      let same : suc (line_count (header_in old) (placing_in old)) ≡ number = omega (arith, judged.0) in
      subst (λ n. StopsAtLine seen n reader reader') same stops

  -- a check that ends asks for nothing behind the line
  pub stops_over : (before middle after : Given) (held held' : Held) (new : Checked) (found : Line) (verdict : Verdict) → StopsNext → FindsOn before middle after held held' old found
      → IsJudged found held'.line (Some verdict) old new → StopsReading seen reader reader' verdict
  stops_over before middle after held held' new found verdict stops on judged = elim (end_or_line held held' found on.bounds on.finds judged) [
    | inl over ↦
        let same : verdict ≡ Yes (length (placing_in old)) = cc over.1 in
        subst (StopsReading seen reader reader') (sym same) tt
    | inr line ↦ stops_as new verdict line.0 stops line.2
  ]
