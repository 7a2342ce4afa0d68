-- The texts that a replay writes, one behind the other.
use Rattle.std.specs.Prelude.{◌≡◌, Bool, List, [], ◌∷◌, ◌++◌, length, codes}
use Rattle.std.specs.List.{concat}
use Rattle.trace_types.specs.text.Name.{Text}
use Rattle.trace_types.specs.text.Text.{reply_text}
use Rattle.trace_types.specs.tenant.Limits.{Limits}
use Rattle.trace_types.specs.world.Interleaving.{Call}
use Rattle.trace_types.specs.world.World.{World, IsAfter}
use Rattle.trace_types.specs.world.Replay.{Entry, addressee, call_of, entries, reply_to}
use Rattle.line_protocol.specs.Patience.{SinkCall}
use Rattle.line_protocol.specs.TextsInTurn.{WritesTexts, BeginsFirst, BreaksOffAt}
use Rattle.line_protocol.specs.declared.stream_fault.StreamFault.{StreamFault}
use Rattle.line_protocol.specs.declared.stream_fault.StreamFault.TheVariants.{Write}

-- two texts for each line: whom its reply names, with the blank, and the reply, with its end of line
abbrev pub output_texts : List Text → Limits → List Call → List Entry → List Text
output_texts names limits before [] = []
output_texts names limits before (entry ∷ entries) =
    (addressee names entry.0 ++ codes " ")
    ∷ (reply_text (reply_to limits before entry.0 entry.1) ++ 10 ∷ [])
    ∷ output_texts names limits (before ++ call_of entry.0 entry.1) entries

-- These are the texts of these lines with these marks, whatever calls led to the old world.
abbrev pub AreTexts : World → List Text → List Bool → List Text → Type 0
AreTexts old found marks texts =
    (calls : List Call) → IsAfter old calls → texts ≡ output_texts old.names old.limits calls (entries old.names found marks)

-- Of the texts of these lines some were written whole, each patiently, and of the next a front; a write fault came there.
pub record WritesInPart (fault : StreamFault) (old : World) (found : List Text) (marks : List Bool) (written : Text) (before after : List SinkCall) : Type 0 where
  pub whole : List Text
  pub left : List Text
  pub begun : Text
  pub texts_are : AreTexts old found marks (whole ++ left)
  pub parts : written ≡ concat whole ++ begun
  pub begins : BeginsFirst begun left
  pub patient : WritesTexts before after whole
  pub broken_off : fault ≡ Write → BreaksOffAt (length (concat whole)) left patient.more
