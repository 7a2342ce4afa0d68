-- Texts that are written in several calls.
use Rattle.std.proofs.Common.{◌≡◌, ◌≤◌, ◌++◌, Result, Ok, Err, OnErr, OnOk, IfErr, IsErrAnd, inl, inr, sym, ap, subst, ◌∙◌, append_assoc, arith}
use Rattle.std.specs.Io.KnownBytes.{Keeps}
use Rattle.std.proofs.KnownBytes.{Keeps-trans}
use Rattle.trace_types.specs.text.Name.{Text}
use Rattle.line_protocol.specs.Sink.{Taken}
use Rattle.line_protocol.specs.Writing.{WritesText, WritesBoth, GoesWell, GoesWrong, EndsInFault}
use Rattle.line_protocol.proofs.WritingLemmas.{WritesFront-first, WritesFront-later}

-- what holds of this error holds of the one that there is
pub IfErr-equal : {T E : Type 0} (P : E → Type 0) (result : Result T E) (error : E) → IsErrAnd result (λ e. e ≡ error) → P error → IfErr result P
IfErr-equal P (Ok value) error is h = tt
IfErr-equal P (Err e) error is h = subst P (sym is) h

ends_in_fault : (before between after : Taken) → GoesWell before between → GoesWrong between after → EndsInFault before after
ends_in_fault before between after well wrong =
    elim wrong.fault [
      | inl failed ↦ inl (omega (arith, well.failures, failed.0))
      | inr waited ↦ inr (omega (arith, well.failures, waited.0), omega (arith, well.more, waited.1))
    ]

-- two texts that are written are one
pub WritesText-both : {A E : Type 0} (before after : Taken) (result : Result A E) (first second all : Text) → all ≡ first ++ second → WritesBoth before after result first second → WritesText before after result all
WritesText-both before after (Ok done) first second all is (between, one, other) =
    other.0 ∙ ap (λ bytes. bytes ++ second) one.0 ∙ append_assoc before.bytes first second ∙ ap (λ bytes. before.bytes ++ bytes) (sym is)
WritesText-both before after (Err fault) first second all is (inl part) = rw is (WritesFront-first second part.0)
WritesText-both before after (Err fault) first second all is (inr (between, one, part)) = rw is (WritesFront-later first one.0 part.0)

pub WritesBoth-no_failure : {A E : Type 0} (before after : Taken) (result : Result A E) (first second : Text) → WritesBoth before after result first second → OnOk result (after.failures ≡ before.failures)
WritesBoth-no_failure before after (Ok done) first second (between, one, other) = other.1.failures ∙ one.1.failures
WritesBoth-no_failure before after (Err fault) first second writes = tt

pub WritesBoth-fault : {A E : Type 0} (before after : Taken) (result : Result A E) (first second : Text) → WritesBoth before after result first second → OnErr result (EndsInFault before after)
WritesBoth-fault before after (Ok done) first second writes = tt
WritesBoth-fault before after (Err fault) first second (inl part) =
    elim part.1.fault [
      | inl failed ↦ inl failed.0
      | inr waited ↦ inr (waited.0, omega (arith, waited.1))
    ]
WritesBoth-fault before after (Err fault) first second (inr (between, one, part)) = ends_in_fault before between after one.1 part.1

pub WritesBoth-interruptions : {A E : Type 0} (before after : Taken) (result : Result A E) (first second : Text) → WritesBoth before after result first second → before.interruptions ≤ after.interruptions
WritesBoth-interruptions before after (Ok done) first second (between, one, other) = omega (arith, one.1.more, other.1.more)
WritesBoth-interruptions before after (Err fault) first second (inl part) = part.1.more
WritesBoth-interruptions before after (Err fault) first second (inr (between, one, part)) = omega (arith, one.1.more, part.1.more)

-- what a writer can tell that it held before stays so
pub WritesBoth-began : {A E : Type 0} (before after : Taken) (result : Result A E) (first second : Text) → WritesBoth before after result first second → Keeps before.began after.began
WritesBoth-began before after (Ok done) first second (between, one, other) = Keeps-trans _ _ _ one.1.began other.1.began
WritesBoth-began before after (Err fault) first second (inl part) = part.1.began
WritesBoth-began before after (Err fault) first second (inr (between, one, part)) = Keeps-trans _ _ _ one.1.began part.1.began
