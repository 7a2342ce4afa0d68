-- Lines that are headers, and lines that are none.
use Rattle.std.proofs.Common.{◌≡◌, ℕ, ◌↔◌, IsTrue, true, false, List, [], ◌∷◌, Option, Some, None, is_some, codes, refl, sym, ap, subst, ◌∙◌}
use Rattle.std.proofs.lemmas.Option.{none-some, same_Some}
use Rattle.serde_json.specs.Data.{Data}
use Rattle.serde_json.specs.Find.{get}
use Rattle.trace_types.specs.text.Name.{Text}
use Rattle.trace_types.specs.text.Lines.{lines}
use Rattle.trace_export.specs.Edges.{Placing}
use Rattle.trace_export.specs.Heading.{AreParts, BeginsWithNoHeader, IsNoHeader, header_json, lines_ahead}
use Rattle.trace_export.specs.Laws.{TellsVersion}
use Rattle.trace_export.specs.Listing.{Listed, IsReadAs, ListsAs, listed_json}
use Rattle.trace_export.specs.Verdict.{AreRightAfter, IsVerdict, IsVerdictOnEvents}
use Rattle.trace_export.specs.declared.header.Header.{Header}
use Rattle.trace_export.specs.declared.reason.Reason.TheVariants.{NoEvent}
use Rattle.trace_export.specs.declared.verdict.Verdict.{Verdict}
use Rattle.trace_export.specs.declared.verdict.Verdict.TheVariants.{Yes, No}

-- a line is one JSON
one_json : (line : Text) (one other : Data) → IsReadAs line one → IsReadAs line other → one ≡ other
one_json line one other reads reads' = same_Some one other (sym reads.1 ∙ reads'.1)

-- an event has no version
no_version : (listed : Listed) → get (codes "version") (listed_json listed) ≡ None
no_version listed = refl

-- a line that lists an event is no header
pub event_is_no_header : (line : Text) (listed : Listed) → ListsAs line listed → IsNoHeader line
event_is_no_header line listed lists header is =
    let same : listed_json listed ≡ header_json header = sym lists.2.written ∙ one_json line lists.0 is.1.0 lists.1 is.1.1 ∙ is.1.2.written in
    none-some _ (sym (no_version listed) ∙ ap (get (codes "version")) same)

headless : (these : List Text) (header : Option Header) (events : List Text) (verdict : Verdict) → BeginsWithNoHeader these → AreParts these header events
    → IsVerdictOnEvents (lines_ahead header) events verdict → IsVerdictOnEvents 0 these verdict
headless these None events verdict none parts judged = subst (λ (these : List Text). IsVerdictOnEvents 0 these verdict) (sym parts.0) judged
headless these (Some header) events verdict none parts judged = absurd (subst BeginsWithNoHeader parts.1 none header parts.2)

-- the verdict on an export without a header
pub version_1 : (bytes : List ℕ) (verdict : Verdict) → BeginsWithNoHeader (lines bytes) → IsVerdict bytes verdict ↔ IsVerdictOnEvents 0 (lines bytes) verdict
version_1 bytes verdict none = (
  λ due. headless (lines bytes) due.header due.events verdict none due.parts due.judged,
  λ judged. record { header = None; events = lines bytes; parts = (refl, none); judged = judged },
)

right_begins : (these : List Text) (placing : Placing) → AreRightAfter [] these placing → BeginsWithNoHeader these
right_begins [] placing right = tt
right_begins (line ∷ rest) placing right = event_is_no_header line right.1.listed right.1.listing.1

-- events alone make an export
pub version_1-right : (bytes : List ℕ) (count : ℕ) → IsVerdictOnEvents 0 (lines bytes) (Yes count) → IsVerdict bytes (Yes count)
version_1-right bytes count judged = (version_1 bytes (Yes count) (right_begins (lines bytes) judged.1.0 judged.1.1)).1 judged

spoilt : (these : List Text) → TellsVersion these → BeginsWithNoHeader these → IsVerdictOnEvents 0 these (No 1 NoEvent)
spoilt [] tells none = absurd tells
spoilt (line ∷ rest) tells none = record {
  before = [];
  line = line;
  rest = rest;
  splits = refl;
  counts = refl;
  placing = [];
  right = refl;
  faulty = (
    (tells.0, (tells.1.0, tells.1.1)),
    λ listed lists.
        let same : tells.1.0 ≡ listed_json listed = one_json line tells.1.0 lists.0 tells.1.1 lists.1 ∙ lists.2.written in
        let known : false ≡ true = subst (λ json. IsTrue (is_some (get (codes "version") json))) same tells.1.2 in
        absurd (cc known),
  );
}

-- a first line that tells a version, and yet is no header
pub spoilt_header : (bytes : List ℕ) → TellsVersion (lines bytes) → BeginsWithNoHeader (lines bytes) → IsVerdict bytes (No 1 NoEvent)
spoilt_header bytes tells none = (version_1 bytes (No 1 NoEvent) none).1 (spoilt (lines bytes) tells none)
