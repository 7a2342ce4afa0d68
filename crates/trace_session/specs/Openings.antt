-- The first line of a session.
use Rattle.std.specs.Prelude.{ℕ, take, drop, Option, Some, None, if◌then◌else◌, codes, option_map}
use Rattle.trace_types.specs.text.Name.{Text, is_same}
use Rattle.trace_types.specs.text.Lines.{is_longer_than}
use Rattle.trace_types.specs.text.Reading.{name_of}
use Rattle.line_protocol.specs.declared.line.Line.{Line}
use Rattle.line_protocol.specs.declared.line.Line.TheVariants as line
use Rattle.trace_session.specs.declared.hub_session.Lending.{Lending}
use Rattle.trace_session.specs.declared.hub_session.Lending.TheVariants.{Desk, View}
use Rattle.trace_session.specs.declared.hub_session.Opening.{Opening}

-- what is opened where this is asked for, of the tenant with this name, if it is one
abbrev pub opening_for : Lending → Text → Option Opening
opening_for lending name = option_map (λ tenant. record { lending = lending; tenant = tenant }) (name_of name)

-- what the line opens, if it opens something: `report NAME` or `view NAME`
abbrev pub opening_of : Text → Option Opening
opening_of text =
    if is_same (take 7 text) (codes "report ") then opening_for Desk (drop 7 text)
    else if is_same (take 5 text) (codes "view ") then opening_for View (drop 5 text)
    else None

-- the same, where lines have at most so many bytes
abbrev pub opening_in : ℕ → Text → Option Opening
opening_in most text = if is_longer_than most text then None else opening_of text

-- what is opened where a line reader found this, and holds this line; none where it found the end of the input
abbrev pub opening_at : Line → Text → Option (Option Opening)
opening_at line.End text = None
opening_at line.TooLong text = Some None
opening_at line.Whole text = Some (opening_of text)
