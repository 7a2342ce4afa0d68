-- What the lines of a session ask.
use Rattle.std.specs.Prelude.{◌≡◌, ℕ, Bool, false, not, ◌&&◌, IsTrue, List, Option, None, if◌then◌else◌, codes}
use Rattle.trace_types.specs.text.Name.{Text, is_same}
use Rattle.trace_types.specs.text.Lines.{is_longer_than}
use Rattle.trace_types.specs.text.Reading.{request_of}
use Rattle.trace_types.specs.declared.request.Request.{Request}
use Rattle.line_protocol.specs.Held.{Held}
use Rattle.line_protocol.specs.LineReading.{Finds, GivesLine}
use Rattle.line_protocol.specs.declared.line.Line.{Line}
use Rattle.line_protocol.specs.declared.line.Line.TheVariants as line
use Rattle.trace_session.specs.declared.session_lines.Asked.{Asked}
use Rattle.trace_session.specs.declared.session_lines.Asked.TheVariants as asked

-- how many requests one session may make; each line that is no `quit` counts as one
abbrev pub most_requests : ℕ
most_requests = 1048576

-- whether the line is `quit`, where lines have at most so many bytes
abbrev pub is_quit : ℕ → Text → Bool
is_quit most text = not (is_longer_than most text) && is_same text (codes "quit")

-- the request that the line spells, if it spells one, where lines have at most so many bytes
abbrev pub request_in : ℕ → Text → Option Request
request_in most text = if is_longer_than most text then None else request_of text

-- what is asked where a line reader found this, and holds this line
abbrev pub asked_by_line : Line → Text → Asked
asked_by_line line.End text = asked.End
asked_by_line line.TooLong text = asked.Request None
asked_by_line line.Whole text = if is_same text (codes "quit") then asked.Quit else asked.Request (request_of text)

-- The next line was read, and asks this.
abbrev pub FindsAsked : List ℕ → List ℕ → Held → Held → Asked → Type 0
FindsAsked given given' old new asked.End = Finds given given' old new line.End
FindsAsked given given' old new asked.Quit =
    (text : Text) × GivesLine given given' old.left new.left new.is_ended text × IsTrue (is_quit new.bounds.bytes text)
FindsAsked given given' old new (asked.Request request) =
    (text : Text) × GivesLine given given' old.left new.left new.is_ended text
    × (is_quit new.bounds.bytes text ≡ false) × (request ≡ request_in new.bounds.bytes text)
