-- What a line of an export is by itself, whatever came before it.
use Rattle.std.specs.Prelude.{Bool, IsTrue, Result, Ok, Err}
use Rattle.trace_types.specs.text.Name.{Text}
use Rattle.trace_export.specs.Heading.{IsHeader, IsNoHeader}
use Rattle.trace_export.specs.Listing.{Listed, ListsAs, listed_of}
use Rattle.trace_export.specs.Verdict.{IsJsonLine, IsListing}
use Rattle.trace_export.specs.declared.read_line.ReadLine.{ReadLine}
use Rattle.trace_export.specs.declared.read_line.ReadLine.TheVariants.{Header, Event}
use Rattle.trace_export.specs.declared.reason.Reason.{Reason}
use Rattle.trace_export.specs.declared.reason.Reason.TheVariants.{NoJson, NoEvent}

-- why the line lists no event
abbrev pub ListsNothing : Reason → Text → Type 0
ListsNothing NoJson line = ¬ IsJsonLine line
ListsNothing NoEvent line = IsJsonLine line × ((listed : Listed) → ¬ ListsAs line listed)
ListsNothing reason line = ⊥

-- what the line is, which may be the first one; only then it may be a header
abbrev pub IsToldAs : Bool → Text → Result ReadLine Reason → Type 0
IsToldAs is_first line (Ok (Header header)) = IsTrue is_first × IsHeader line header
IsToldAs is_first line (Ok (Event event)) = (IsTrue is_first → IsNoHeader line) × IsListing line (listed_of event)
IsToldAs is_first line (Err reason) = (IsTrue is_first → IsNoHeader line) × ListsNothing reason line
