-- Texts that are shown one behind another, and what faults leave of them.
use Rattle.std.proofs.Common.{◌∙◌, ℕ, ◌+◌, ◌++◌, ◌≤◌, inl, inr, [], List, sym, ap, append_assoc, append-nil, arith}
use Rattle.line_protocol.specs.Sink.{Taken}
use Rattle.line_protocol.specs.Writing.{EndsInFault}
use Rattle.trace_types.specs.text.Name.{Text}
use Rattle.collector.specs.Showing.{Shows, ShowsAll, ShowsFront}

-- of a text that was shown, or not, a front was written
pub front : (taken taken' : Taken) (text : Text) → Shows taken taken' text → ShowsFront taken.bytes taken'.bytes text
front taken taken' text (inl all) = record { written = text; rest = []; grows = all.0; front = sym (append-nil text) }
front taken taken' text (inr part) = part.0

-- and so of that text with another behind it
pub front_of_both : (old new one other : List ℕ) → ShowsFront old new one → ShowsFront old new (one ++ other)
front_of_both old new one other part = record {
  written = part.written;
  rest = part.rest ++ other;
  grows = part.grows;
  front = ap (λ text. text ++ other) part.front ∙ append_assoc part.written part.rest other;
}

-- a front that was written behind a text that was shown
pub front_behind : (first second third : Taken) (one other : Text) → ShowsAll first second one
    → ShowsFront second.bytes third.bytes other → ShowsFront first.bytes third.bytes (one ++ other)
front_behind first second third one other all part = record {
  written = one ++ part.written;
  rest = part.rest;
  grows = part.grows ∙ (ap (λ bytes. bytes ++ part.written) all.0 ∙ append_assoc first.bytes one part.written);
  front = ap (λ text. one ++ text) part.front ∙ sym (append_assoc one part.written part.rest);
}

-- two texts that were shown
pub both : (first second third : Taken) (one other : Text) → ShowsAll first second one → ShowsAll second third other
    → ShowsAll first third (one ++ other)
both first second third one other all rest =
    (rest.0 ∙ (ap (λ bytes. bytes ++ other) all.0 ∙ append_assoc first.bytes one other), rest.1, rest.2 ∙ all.2)

-- a fault that came behind a text that was shown
pub later_fault : (first second third : Taken) (one : Text) → ShowsAll first second one → first.interruptions ≤ second.interruptions
    → EndsInFault second third → EndsInFault first third
later_fault first second third one all more (inl failed) = inl (failed ∙ ap (λ failures. failures + 1) all.2)
later_fault first second third one all more (inr waited) = inr (waited.0 ∙ all.2, omega (arith, more, waited.1))
