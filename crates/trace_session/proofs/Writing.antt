-- The replies that a session writes, one after another.
use Rattle.std.proofs.Common.{◌≡◌, ◌≤◌, ◌<◌, List, [], ◌∷◌, ◌++◌, inl, inr, length, refl, sym, ap, ◌∙◌, append_assoc, arith}
use Rattle.std.proofs.lemmas.List.{append-nil, length-append, map-append}
use Rattle.std.proofs.lemmas.List.Folds.{concat-append}
use Rattle.std.specs.List.{concat}
use Rattle.std.specs.Prelude.{ℕ}
use Rattle.std.specs.Io.KnownBytes.{Keeps}
use Rattle.std.proofs.KnownBytes.{Keeps-refl, Keeps-trans}
use Rattle.trace_types.specs.text.Name.{Text}
use Rattle.trace_types.specs.text.Text.{reply_text}
use Rattle.trace_types.specs.declared.reply.Reply.{Reply}
use Rattle.line_protocol.proofs.TextsInTurn.{WroteTexts, WroteTexts-none, WroteTexts-text, WroteTexts-flush, BreaksTexts-text, BreaksTexts-flush}
use Rattle.line_protocol.specs.Patience.{SinkCall}
use Rattle.line_protocol.specs.Sink.{Taken}
use Rattle.line_protocol.specs.TextsInTurn.{BeginsFirst, BreaksOffAt}
use Rattle.line_protocol.specs.HandingOn.{KeepsAll}
use Rattle.line_protocol.specs.Writing.{EndsInFault, GoesWrong, HandsAllOn, StopsHandingOn, WritesPart, WritesWhole}
use Rattle.trace_session.specs.Written.{WritesAll, WritesLinesInPart, reply_line, reply_lines}

-- These replies were written, each patiently, and all is ready for the next.
pub record Wrote (before after : Taken) (replies : List Reply) : Type 0 where
  pub bytes : after.bytes ≡ before.bytes ++ concat (reply_lines replies)
  pub texts : WroteTexts before.calls after.calls (reply_lines replies)
  pub failures : after.failures ≡ before.failures
  pub interruptions : before.interruptions ≤ after.interruptions
  pub began : Keeps before.began after.began

pub Wrote-none : (taken : Taken) → Wrote taken taken []
Wrote-none taken = record {
  bytes = sym (append-nil taken.bytes);
  texts = WroteTexts-none taken.calls;
  failures = refl;
  interruptions = omega arith;
  began = Keeps-refl taken.began;
}

-- What was written stays.
pub Wrote-kept : {before mid after : Taken} {replies : List Reply} → Wrote before mid replies → KeepsAll mid after → Wrote before after replies
Wrote-kept {before = before} {mid = mid} {after = after} wrote keeps = record {
  bytes = keeps.0 ∙ wrote.bytes;
  texts = WroteTexts-flush wrote.texts keeps.2;
  failures = keeps.1.failures ∙ wrote.failures;
  interruptions = omega (arith, wrote.interruptions, keeps.1.more);
  began = Keeps-trans before.began mid.began after.began wrote.began keeps.1.began;
}

-- no line is empty
some_line : (reply : Reply) → 0 < length (reply_line reply)
some_line reply = omega (arith, length-append (reply_text reply) (10 ∷ []))

-- the lines of one reply more
lines_push : (replies : List Reply) (reply : Reply) → reply_lines (replies ++ reply ∷ []) ≡ reply_lines replies ++ reply_line reply ∷ []
lines_push replies reply = map-append reply_line replies (reply ∷ [])

joined_push : (replies : List Reply) (reply : Reply) → concat (reply_lines (replies ++ reply ∷ [])) ≡ concat (reply_lines replies) ++ reply_line reply
joined_push replies reply =
    ap concat (lines_push replies reply) ∙ concat-append (reply_lines replies) (reply_line reply ∷ [])
    ∙ ap (λ bytes. concat (reply_lines replies) ++ bytes) (append-nil (reply_line reply))

-- one reply more
pub Wrote-line : {before mid after : Taken} {replies : List Reply} (reply : Reply) → Wrote before mid replies → WritesWhole mid after (reply_line reply) → Wrote before after (replies ++ reply ∷ [])
Wrote-line {before = before} {mid = mid} {after = after} {replies = replies} reply wrote writes = record {
  bytes =
      writes.0 ∙ ap (λ bytes. bytes ++ reply_line reply) wrote.bytes
      ∙ append_assoc before.bytes (concat (reply_lines replies)) (reply_line reply)
      ∙ ap (λ bytes. before.bytes ++ bytes) (sym (joined_push replies reply));
  texts = rw (lines_push replies reply) (WroteTexts-text (reply_lines replies) (reply_line reply) (some_line reply) wrote.texts writes.2);
  failures = writes.1.failures ∙ wrote.failures;
  interruptions = omega (arith, wrote.interruptions, writes.1.more);
  began = Keeps-trans before.began mid.began after.began wrote.began writes.1.began;
}

-- all is handed on in the end
pub WritesAll-from : {before mid after : Taken} {replies : List Reply} → Wrote before mid replies → HandsAllOn mid after → WritesAll before after replies
WritesAll-from {before = before} {mid = mid} {after = after} wrote hands =
    let texts = WroteTexts-flush wrote.texts hands.3 in
    record {
      bytes = hands.0 ∙ wrote.bytes;
      flushed = hands.1;
      patient = record { more = texts.more; calls = texts.calls; each = texts.each };
      failures = hands.2.failures ∙ wrote.failures;
      began = Keeps-trans before.began mid.began after.began wrote.began hands.2.began;
    }

ends_in_fault : (before mid after : Taken) → mid.failures ≡ before.failures → before.interruptions ≤ mid.interruptions → GoesWrong mid after → EndsInFault before after
ends_in_fault before mid after same more wrong =
    elim wrong.fault [
      | inl failed ↦ inl (omega (arith, same, failed.0))
      | inr waited ↦ inr (omega (arith, same, waited.0), omega (arith, more, waited.1))
    ]

-- a flush in which a fault came, whatever texts are left
breaks_off : (from : ℕ) (left : List Text) (calls : List SinkCall) → BreaksOffAt from [] calls → BreaksOffAt from left calls
breaks_off from left calls (inl failed) = inl failed
breaks_off from left calls (inr (none, inl waits)) = absurd waits
breaks_off from left calls (inr (none, inr waits)) = inr (none, inr waits)

begins_none : (left : List Reply) → BeginsFirst [] (reply_lines left)
begins_none [] = refl
begins_none (reply ∷ replies) = (reply_line reply, refl, some_line reply)

-- what was written was not handed on
pub WritesLinesInPart-held : {before mid after : Taken} {replies : List Reply} (left : List Reply) → length left ≤ 1 → Wrote before mid replies → StopsHandingOn mid after → WritesLinesInPart before after (replies ++ left)
WritesLinesInPart-held {before = before} {mid = mid} {after = after} {replies = replies} left few wrote stops =
    let breaks = BreaksTexts-flush (reply_lines replies) wrote.texts stops.2 in
    record {
      whole = replies;
      left = left;
      splits = refl;
      last = few;
      begun = [];
      begins = begins_none left;
      bytes = stops.0 ∙ wrote.bytes ∙ ap (λ bytes. before.bytes ++ bytes) (sym (append-nil (concat (reply_lines replies))));
      patient = record { more = breaks.more; calls = breaks.calls; each = breaks.each };
      broken_off = breaks_off _ (reply_lines left) breaks.more breaks.broken;
      fault = ends_in_fault before mid after wrote.failures wrote.interruptions stops.1;
      began = Keeps-trans before.began mid.began after.began wrote.began stops.1.began;
    }

-- the last reply was written in part
pub WritesLinesInPart-line : {before mid after : Taken} {replies : List Reply} (reply : Reply) → Wrote before mid replies → WritesPart mid after (reply_line reply) → WritesLinesInPart before after (replies ++ reply ∷ [])
WritesLinesInPart-line {before = before} {mid = mid} {after = after} {replies = replies} reply wrote part =
    let breaks = BreaksTexts-text (reply_lines replies) (reply_line reply) [] wrote.texts part.2 in
    record {
      whole = replies;
      left = reply ∷ [];
      splits = refl;
      last = omega arith;
      begun = part.0.written;
      begins = (part.0.rest, part.0.front, part.0.some_left);
      bytes = part.0.grows ∙ ap (λ bytes. bytes ++ part.0.written) wrote.bytes ∙ append_assoc before.bytes (concat (reply_lines replies)) part.0.written;
      patient = record { more = breaks.more; calls = breaks.calls; each = breaks.each };
      broken_off = breaks.broken;
      fault = ends_in_fault before mid after wrote.failures wrote.interruptions part.1;
      began = Keeps-trans before.began mid.began after.began wrote.began part.1.began;
    }
