-- What a session wrote.
use Rattle.std.specs.Prelude.{◌≡◌, ◌≤◌, IsTrue, Result, Ok, Err, List, [], ◌∷◌, ◌++◌, ◌⊎◌, length, map}
use Rattle.std.specs.List.{concat}
use Rattle.std.specs.Io.KnownBytes.{Keeps}
use Rattle.trace_types.specs.text.Name.{Text}
use Rattle.trace_types.specs.text.Text.{reply_text}
use Rattle.trace_types.specs.declared.reply.Reply.{Reply}
use Rattle.line_protocol.specs.Sink.{Taken}
use Rattle.line_protocol.specs.TextsInTurn.{BeginsFirst, BreaksOffAt, WritesTexts}
use Rattle.line_protocol.specs.Writing.{EndsInFault, HandsAllOn, StopsHandingOn, WritesPart, WritesWhole}
use Rattle.trace_session.specs.declared.session_end.SessionFault.{SessionFault}
use Rattle.trace_session.specs.declared.session_end.SessionFault.TheVariants.{Write, Gate}

-- the lines of replies
abbrev pub reply_line : Reply → Text
reply_line reply = reply_text reply ++ 10 ∷ []

abbrev pub reply_lines : List Reply → List Text
reply_lines replies = map reply_line replies

-- All these replies were written, each patiently, and handed on.
pub record WritesAll (before after : Taken) (replies : List Reply) : Type 0 where
  pub bytes : after.bytes ≡ before.bytes ++ concat (reply_lines replies)
  pub flushed : IsTrue after.is_flushed
  pub patient : WritesTexts before.calls after.calls (reply_lines replies)
  pub failures : after.failures ≡ before.failures
  pub began : Keeps before.began after.began

-- A write fault came: these replies were written, but the last of them perhaps not, or a front of it. The fault came at
-- that one, or at a flush.
pub record WritesLinesInPart (before after : Taken) (replies : List Reply) : Type 0 where
  pub whole : List Reply
  pub left : List Reply
  pub splits : replies ≡ whole ++ left
  pub last : length left ≤ 1
  pub begun : Text
  pub begins : BeginsFirst begun (reply_lines left)
  pub bytes : after.bytes ≡ before.bytes ++ (concat (reply_lines whole) ++ begun)
  pub patient : WritesTexts before.calls after.calls (reply_lines whole)
  pub broken_off : BreaksOffAt (length (concat (reply_lines whole))) (reply_lines left) patient.more
  pub fault : EndsInFault before after
  pub began : Keeps before.began after.began

-- The line was not written: a write fault came in it, or the gate held it back and what was written before was to be handed on.
abbrev pub StopsAt : SessionFault → Taken → Taken → Text → Type 0
StopsAt Write before after text = WritesPart before after text ⊎ StopsHandingOn before after
StopsAt Gate before after text = HandsAllOn before after
StopsAt other before after text = ⊥

-- The line was written, or not.
abbrev pub PutsOut : {A : Type 0} → Taken → Taken → Result A SessionFault → Text → Type 0
PutsOut before after (Ok value) text = WritesWhole before after text
PutsOut before after (Err fault) text = StopsAt fault before after text
