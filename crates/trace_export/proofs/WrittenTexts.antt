-- Texts that are written one after another.
use Rattle.std.proofs.Common.{◌≡◌, ℕ, suc, ◌<◌, ◌≤◌, inl, inr, List, [], ◌∷◌, ◌++◌, length, take, drop, Some, refl, sym, ap, ◌∙◌, subst, append_assoc, append-nil, arith}
use Rattle.std.specs.List.{concat, slice_get}
use Rattle.std.specs.Io.KnownBytes.{Keeps}
use Rattle.std.proofs.KnownBytes.{Keeps-refl, Keeps-trans}
use Rattle.std.proofs.lemmas.List.{take-append-drop, take_all}
use Rattle.std.proofs.lemmas.List.Folds.{concat-append}
use Rattle.std.proofs.lemmas.Option.{slice_get_within, get_or_from_slice_get}
use Rattle.std.proofs.Math.Seq.{take-suc}
use Rattle.trace_types.specs.text.Name.{Text}
use Rattle.line_protocol.specs.Sink.{Taken}
use Rattle.line_protocol.specs.Patience.{EachPatiently, flush_calls}
use Rattle.line_protocol.specs.Writing.{EndsInFault, GoesWrong, WritesPart, WritesWhole}
use Rattle.line_protocol.proofs.PatienceLemmas.{flush_calls-kept}
use Rattle.line_protocol.proofs.TextsInTurn.{WroteTexts, WroteTexts-none, WroteTexts-text, BreaksTexts-text}
use Rattle.trace_export.specs.Export.{WritesLines, BreaksLines}
use Rattle.trace_export.specs.declared.export_fault.ExportFault.{ExportFault}
use Rattle.trace_export.specs.declared.export_fault.ExportFault.TheVariants.{Write, Memory}

-- So many of the texts were written.
pub record WroteFirst (before after : Taken) (texts : List Text) (count : ℕ) : Type 0 where
  pub few : count ≤ length texts
  pub grows : after.bytes ≡ before.bytes ++ concat (take count texts)
  pub wrote : WroteTexts before.calls after.calls (take count texts)
  pub no_flush : flush_calls after.calls ≡ flush_calls before.calls
  pub failures : after.failures ≡ before.failures
  pub more : before.interruptions ≤ after.interruptions
  pub began : Keeps before.began after.began

pub wrote_no_text : (before : Taken) (texts : List Text) → WroteFirst before before texts 0
wrote_no_text before texts = record {
  few = omega arith;
  grows = sym (append-nil before.bytes);
  wrote = WroteTexts-none before.calls;
  no_flush = refl;
  failures = refl;
  more = omega arith;
  began = Keeps-refl before.began;
}

-- the texts with the next one
push : (texts : List Text) (count : ℕ) (text : Text) → slice_get texts count ≡ Some text → take (suc count) texts ≡ take count texts ++ text ∷ []
push texts count text is =
    let within : count < length texts = slice_get_within texts count text is in
    take-suc texts count text within ∙ ap (λ next. take count texts ++ next ∷ []) (get_or_from_slice_get texts count text text is)

-- those before it, itself, and those behind it
split : (texts : List Text) (count : ℕ) (text : Text) → slice_get texts count ≡ Some text → texts ≡ take count texts ++ text ∷ drop (suc count) texts
split texts count text is =
    sym (take-append-drop (suc count) texts) ∙ ap (λ these. these ++ drop (suc count) texts) (push texts count text is)
    ∙ append_assoc (take count texts) (text ∷ []) (drop (suc count) texts)

concat-push : (texts : List Text) (text : Text) → concat (texts ++ text ∷ []) ≡ concat texts ++ text
concat-push texts text = concat-append texts (text ∷ []) ∙ ap (λ bytes. concat texts ++ bytes) (append-nil text)

pub wrote_text : {before middle after : Taken} {texts : List Text} {count : ℕ} (text : Text) → 0 < length text → WroteFirst before middle texts count → slice_get texts count ≡ Some text
    → WritesWhole middle after text → WroteFirst before after texts (suc count)
wrote_text {before} {middle} {after} {texts} {count} text some wrote is (grows, well, patient) =
    let first = take count texts in
    let more = push texts count text is in
    record {
      few = slice_get_within texts count text is;
      grows = grows ∙ ap (λ bytes. bytes ++ text) wrote.grows ∙ append_assoc before.bytes (concat first) text
          ∙ ap (λ bytes. before.bytes ++ bytes) (sym (concat-push first text) ∙ ap concat (sym more));
      wrote = subst (λ (these : List Text). WroteTexts before.calls after.calls these) (sym more) (WroteTexts-text first text some wrote.wrote patient);
      no_flush = flush_calls-kept middle.calls after.calls patient.more patient.calls patient.no_flush ∙ wrote.no_flush;
      failures = well.failures ∙ wrote.failures;
      more = omega (arith, well.more, wrote.more);
      began = Keeps-trans before.began middle.began after.began wrote.began well.began;
    }

-- all texts were written
pub wrote_all_texts : {before after : Taken} {texts : List Text} {count : ℕ} → WroteFirst before after texts count → length texts ≤ count → WritesLines before after texts
wrote_all_texts {before} {after} {texts} {count} wrote all =
    let same : take count texts ≡ texts = take_all count texts all in
    record {
      grows = wrote.grows ∙ ap (λ these. before.bytes ++ concat these) same;
      patient = record { more = wrote.wrote.more; calls = wrote.wrote.calls; each = subst (λ (these : List Text). EachPatiently 0 these wrote.wrote.more) same wrote.wrote.each };
      no_flush = wrote.no_flush;
      failures = wrote.failures;
      more = wrote.more;
      began = wrote.began;
    }

-- a write of the next one gave up
breaks_off : {before middle after : Taken} {texts : List Text} {count : ℕ} (text : Text) → WroteFirst before middle texts count → slice_get texts count ≡ Some text
    → WritesPart middle after text → BreaksLines Write before after texts
breaks_off {before} {middle} {after} {texts} {count} text wrote is (front, wrong, stops) =
    let first = take count texts in
    let breaks = BreaksTexts-text first text (drop (suc count) texts) wrote.wrote stops in
    record {
      whole = first;
      left = text ∷ drop (suc count) texts;
      begun = front.written;
      parts = split texts count text is;
      some_left = omega arith;
      begins = (front.rest, front.front, front.some_left);
      grows = front.grows ∙ ap (λ bytes. bytes ++ front.written) wrote.grows ∙ append_assoc before.bytes (concat first) front.written;
      patient = record { more = breaks.more; calls = breaks.calls; each = breaks.each };
      no_flush = flush_calls-kept middle.calls after.calls stops.more stops.calls stops.no_flush ∙ wrote.no_flush;
      write = λ same. breaks.broken;
      memory = λ same. absurd (cc same);
      began = Keeps-trans before.began middle.began after.began wrote.began wrong.began;
    }

-- there was no memory for it
lacks_memory : {before middle : Taken} {texts : List Text} {count : ℕ} (text : Text) → 0 < length text → WroteFirst before middle texts count → slice_get texts count ≡ Some text
    → BreaksLines Memory before middle texts
lacks_memory {before} {middle} {texts} {count} text some wrote is = record {
  whole = take count texts;
  left = text ∷ drop (suc count) texts;
  begun = [];
  parts = split texts count text is;
  some_left = omega arith;
  begins = (text, refl, some);
  grows = wrote.grows ∙ ap (λ bytes. before.bytes ++ bytes) (sym (append-nil (concat (take count texts))));
  patient = record { more = wrote.wrote.more; calls = wrote.wrote.calls; each = wrote.wrote.each };
  no_flush = wrote.no_flush;
  write = λ same. absurd (cc same);
  memory = λ same. (refl, wrote.failures);
  began = wrote.began;
}

-- the next one was not written
pub breaks_text : {before middle after : Taken} {texts : List Text} {count : ℕ} (fault : ExportFault) (text : Text) → 0 < length text → WroteFirst before middle texts count
    → slice_get texts count ≡ Some text → (fault ≡ Write → WritesPart middle after text) → (fault ≡ Memory → after ≡ middle) → BreaksLines fault before after texts
breaks_text Write text some wrote is part same = breaks_off text wrote is (part refl)
breaks_text {before} {texts = texts} Memory text some wrote is part same =
    subst (λ (after : Taken). BreaksLines Memory before after texts) (sym (same refl)) (lacks_memory text some wrote is)

pub ends_after : {before middle after : Taken} {texts : List Text} {count : ℕ} → WroteFirst before middle texts count → GoesWrong middle after → EndsInFault before after
ends_after wrote wrong = elim wrong.fault [
  | inl failed ↦ inl (omega (arith, failed.0, wrote.failures))
  | inr waited ↦ inr (omega (arith, waited.0, wrote.failures), omega (arith, waited.1, wrote.more))
]
