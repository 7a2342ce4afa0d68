-- The header of an export, and the lines of events behind it.
use Rattle.std.specs.Prelude.{◌≡◌, ◌≤◌, ℕ, IsTrue, List, [], ◌∷◌, ◌++◌, length, Option, Some, None, codes}
use Rattle.serde_json.specs.Data.{Data, number, unsigned, string, object, member, no_members}
use Rattle.serde_json.specs.Written.{compact_text}
use Rattle.trace_types.specs.tenant.Limits.{are_limits}
use Rattle.trace_types.specs.text.Name.{Text, is_name}
use Rattle.trace_export.specs.Listing.{IsReadAs}
use Rattle.trace_export.specs.declared.header.Header.{Header}

-- the header as JSON: an object of these five keys
abbrev pub header_json : Header → Data
header_json header =
    object (member (codes "events") (number (unsigned header.limits.events))
    (member (codes "messages") (number (unsigned header.limits.messages))
    (member (codes "tasks") (number (unsigned header.limits.tasks))
    (member (codes "tenant") (string header.tenant)
    (member (codes "version") (number (unsigned 2)) no_members)))))

-- The JSON is that of the header, whose tenant has a name and whose limits are in their ranges.
pub record IsHeaderJson (json : Data) (header : Header) : Type 0 where
  pub written : json ≡ header_json header
  pub tenant : IsTrue (is_name header.tenant)
  pub limits : IsTrue (are_limits header.limits.events header.limits.tasks header.limits.messages)

-- the line is this header, and not too long; keys may come in any order, and of one that comes again the last counts
abbrev pub IsHeader : Text → Header → Type 0
IsHeader line header = (length line ≤ 65536) × ((json : Data) × IsReadAs line json × IsHeaderJson json header)

-- the line is no header
abbrev pub IsNoHeader : Text → Type 0
IsNoHeader line = (header : Header) → ¬ IsHeader line header

-- the first of these lines, if there is one, is no header
abbrev pub BeginsWithNoHeader : List Text → Type 0
BeginsWithNoHeader [] = Unit {0}
BeginsWithNoHeader (line ∷ rest) = IsNoHeader line

-- The lines are a header and those of events behind it, or without a header those of events alone.
abbrev pub AreParts : List Text → Option Header → List Text → Type 0
AreParts these None events = (these ≡ events) × BeginsWithNoHeader events
AreParts these (Some header) events = (line : Text) × (these ≡ line ∷ events) × IsHeader line header

-- how many lines come before those of events
abbrev pub lines_ahead : Option Header → ℕ
lines_ahead None = 0
lines_ahead (Some header) = 1

-- the text in which a header is written
abbrev pub header_text : Header → Text
header_text header = compact_text (header_json header)

-- the line in which a header is written, with its end
abbrev pub header_line : Header → Text
header_line header = header_text header ++ codes "\n"
