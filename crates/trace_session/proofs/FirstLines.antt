-- The first line of a session.
use Rattle.std.proofs.Common.{◌≡◌, true, false, inr, refl, sym, subst, ◌∙◌, Result}
use Rattle.std.specs.Prelude.{ℕ, Option, Some, None, IfNone}
use Rattle.trace_types.specs.text.Name.{Text}
use Rattle.trace_types.specs.text.Lines.{is_longer_than}
use Rattle.line_protocol.specs.Held.{ReadingBounds}
use Rattle.line_protocol.specs.LineReading.{Finds}
use Rattle.line_protocol.specs.declared.line.Line.{Line}
use Rattle.line_protocol.specs.declared.line.Line.TheVariants as line
use Rattle.trace_session.specs.Conversations.{Converses, Opens}
use Rattle.trace_session.specs.Hubs.{Hub}
use Rattle.trace_session.specs.Openings.{opening_at, opening_in, opening_of}
use Rattle.trace_session.specs.State.{State}
use Rattle.trace_session.specs.Witnesses.{Witness}
use Rattle.trace_session.specs.declared.hub_session.Opening.{Opening}
use Rattle.trace_session.specs.declared.session_end.SessionEnd.{SessionEnd}
use Rattle.trace_session.specs.declared.session_end.SessionFault.{SessionFault}

opening_too_long : (most : ℕ) (text : Text) → is_longer_than most text ≡ true → opening_in most text ≡ None
opening_too_long most text long = rw long refl

opening_whole : (most : ℕ) (text : Text) → is_longer_than most text ≡ false → opening_in most text ≡ opening_of text
opening_whole most text fits = rw fits refl

-- the first line was found, and what it opens
pub Converses-opened : (hub : Hub) (witness : Option Witness) (before between after : State) (found : Line) (opening : Option Opening) (result : Result SessionEnd SessionFault)
    → Finds before.given.bytes between.given.bytes before.held between.held found → between.held.bounds ≡ before.held.bounds → between.taken ≡ before.taken
    → opening_at found between.held.line ≡ Some opening → Opens hub opening witness between after result → Converses hub witness before after result
Converses-opened hub witness before between after line.End opening result finds same silent is opens = absurd (cc)
Converses-opened hub witness before between after line.TooLong opening result (text, gives, long) same silent is opens =
    let none : None ≡ opening = cc in
    let here : is_longer_than before.held.bounds.bytes text ≡ true = subst (λ (bounds : ReadingBounds). is_longer_than bounds.bytes text ≡ true) same long in
    inr (record {
      text = text;
      between = between;
      gives = gives;
      bounds = same;
      nothing_written = silent;
      opens = subst (λ one. Opens hub one witness between after result) (sym none ∙ sym (opening_too_long before.held.bounds.bytes text here)) opens;
    })
Converses-opened hub witness before between after line.Whole opening result (gives, fits) same silent is opens =
    let text = between.held.line in
    let read : opening_of text ≡ opening = cc in
    let here : is_longer_than before.held.bounds.bytes text ≡ false = subst (λ (bounds : ReadingBounds). is_longer_than bounds.bytes text ≡ false) same fits in
    inr (record {
      text = text;
      between = between;
      gives = gives;
      bounds = same;
      nothing_written = silent;
      opens = subst (λ one. Opens hub one witness between after result) (sym read ∙ sym (opening_whole before.held.bounds.bytes text here)) opens;
    })

-- what holds where there was no fault, where there was none
pub IfNone-from : {A : Type 0} (P : Type 0) (option : Option A) → option ≡ None → IfNone option P → P
IfNone-from P None none holds = holds
IfNone-from P (Some value) none holds = absurd (cc)
