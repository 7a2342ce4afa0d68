-- What a replay did.
use Rattle.std.specs.Prelude.{◌≡◌, ◌≢◌, ℕ, ◌-◌, ◌≤◌, Bool, IsTrue, Result, Ok, Err, List, [], ◌++◌, length, take, count_by, IfSome}
use Rattle.std.specs.Io.KnownBytes.{Keeps}
use Rattle.trace_types.specs.text.Name.{Text}
use Rattle.trace_types.specs.text.Lines.{lines}
use Rattle.trace_types.specs.world.Interleaving.{Call}
use Rattle.trace_types.specs.world.World.{World, IsAfter}
use Rattle.trace_types.specs.world.Replay.{asked, call_of, reply_to, addressee, entries, calls_by, replies_to, output, MarkMayStand, MarksMayStand, is_accepted, is_answered, is_refused}
use Rattle.trace_types.specs.declared.reply.Reply.{Reply}
use Rattle.line_protocol.specs.Ends.{end_count}
use Rattle.line_protocol.specs.Source.{Given}
use Rattle.line_protocol.specs.Sink.{Taken}
use Rattle.line_protocol.specs.TextsInTurn.{WritesTexts}
use Rattle.trace_world.specs.Texts.{AreTexts, WritesInPart}
use Rattle.trace_world.specs.declared.counts.Counts.{Counts}
use Rattle.line_protocol.specs.declared.stream_fault.StreamFault.{StreamFault}
use Rattle.line_protocol.specs.declared.stream_fault.StreamFault.TheVariants.{Read, Write, TooLong, Memory}

-- how many replies there are, and how many of each sort
abbrev pub counts_of : List Reply → Counts
counts_of replies = record {
  lines = length replies;
  accepted = count_by is_accepted replies;
  answered = count_by is_answered replies;
  refused = count_by is_refused replies;
}

-- These lines of all tenants, with these marks, lead from the old world to the new one, have this output and these
-- counts, whatever calls led to the old world.
pub record LeadsTo (old : World) (found : List Text) (marks : List Bool) (text : Text) (counts : Counts) (new : World) : Type 0 where
  pub one_each : length marks ≡ length found
  pub names : new.names ≡ old.names
  pub limits : new.limits ≡ old.limits
  pub places : length new.tenants ≡ length old.tenants
  pub marked : (calls : List Call) → IsAfter old calls → MarksMayStand old.limits calls (entries old.names found marks)
  pub text_is : (calls : List Call) → IsAfter old calls → text ≡ output old.names old.limits calls (entries old.names found marks)
  pub counted : (calls : List Call) → IsAfter old calls → counts ≡ counts_of (replies_to old.limits calls (entries old.names found marks))
  pub leads : (calls : List Call) → IsAfter old calls → IsAfter new (calls ++ calls_by (entries old.names found marks))

-- All that the reader had was replayed, where it can tell its bytes, else all that it gave until it told the end: for
-- some marks that may stand, what was written is the output for all the lines, and the counts are those of its replies.
pub record Replays (before after : Given) (taken taken' : Taken) (old : World) (counts : Counts) (new : World) : Type 0 where
  pub came : List ℕ
  pub marks : List Bool
  pub text : Text
  pub reads : after.bytes ≡ before.bytes ++ came
  pub ends : IsTrue after.has_ended
  pub all : IfSome before.whole (λ whole. whole ≡ before.bytes ++ came)
  pub writes : taken'.bytes ≡ taken.bytes ++ text
  -- What the writer can tell that it held before stays so.
  pub began : Keeps taken.began taken'.began
  pub leads : LeadsTo old (lines came) marks text counts new
  pub texts : List Text
  pub texts_are : AreTexts old (lines came) marks texts
  pub patient : WritesTexts taken.calls taken'.calls texts

-- These are the first lines of what the reader gave, however its input goes on; it does not go on once the reader told
-- the end.
pub record AreFirstLines (given given' : List ℕ) (has_ended : Bool) (found : List Text) : Type 0 where
  pub came : List ℕ
  pub left : List ℕ
  pub reads : given' ≡ given ++ came
  pub first : (rest : List ℕ) → (IsTrue has_ended → rest ≡ []) → lines (came ++ rest) ≡ found ++ lines (left ++ rest)

-- A fault came in between: the first lines were replayed, a front of their output was written, and at most the last
-- of them lacks its whole reply. Unless the fault is one of writing, none of them does, and as many lines were replayed
-- as ends of line came. Of the texts of these lines some were written whole, each patiently, and of the next a front.
pub record ReplaysInPart (fault : StreamFault) (before after : Given) (taken taken' : Taken) (old new : World) : Type 0 where
  pub found : List Text
  pub marks : List Bool
  pub text : Text
  pub counts : Counts
  pub written : List ℕ
  pub unwritten : List ℕ
  pub first : AreFirstLines before.bytes after.bytes after.has_ended found
  -- What the reader can tell of its bytes stays so.
  pub kept : Keeps before.whole after.whole
  pub none_lost : fault ≢ Write → length found ≡ end_count first.came
  pub writes : taken'.bytes ≡ taken.bytes ++ written
  pub began : Keeps taken.began taken'.began
  pub front : text ≡ written ++ unwritten
  pub replied : fault ≢ Write → unwritten ≡ []
  pub leads : LeadsTo old found marks text counts new
  pub whole : (calls : List Call) → IsAfter old calls →
      length (output old.names old.limits calls (entries old.names (take (length found - 1) found) (take (length found - 1) marks))) ≤ length written
  pub texts : WritesInPart fault old found marks written taken.calls taken'.calls

-- All lines of the bytes lead from the old world to the new one, for some marks that may stand, and this is their output.
pub record AnswersAll (old : World) (bytes written : List ℕ) (new : World) : Type 0 where
  pub marks : List Bool
  pub counts : Counts
  pub leads : LeadsTo old (lines bytes) marks written counts new

-- All that was answered was handed on, unless a write failed or nothing was read.
abbrev pub HandsOn : {A : Type 0} → Result A StreamFault → Taken → Type 0
HandsOn (Ok counts) taken = IsTrue taken.is_flushed
HandsOn (Err Read) taken = IsTrue taken.is_flushed
HandsOn (Err TooLong) taken = IsTrue taken.is_flushed
HandsOn (Err Write) taken = Unit {0}
HandsOn (Err Memory) taken = Unit {0}

-- One line leads from the old world to the new one, and this reply is due to this addressee.
pub record DoesLine (old : World) (line : Text) (to : Text) (reply : Reply) (new : World) : Type 0 where
  pub mark : Bool
  pub names : new.names ≡ old.names
  pub limits : new.limits ≡ old.limits
  pub places : length new.tenants ≡ length old.tenants
  pub addressed : to ≡ addressee old.names (asked old.names line)
  pub marked : (calls : List Call) → IsAfter old calls → MarkMayStand old.limits calls (asked old.names line, mark)
  pub due : (calls : List Call) → IsAfter old calls → reply ≡ reply_to old.limits calls (asked old.names line) mark
  pub leads : (calls : List Call) → IsAfter old calls → IsAfter new (calls ++ call_of (asked old.names line) mark)
