-- What a check leaves, of what its reader gave before and after.
use Rattle.std.specs.Prelude.{◌≡◌, ℕ, suc, ◌+◌, ◌<◌, ◌≤◌, ◌⊎◌, Bool, IsTrue, List, [], ◌∷◌, ◌++◌, length, Option, Some, None, Result, Ok, Err}
use Rattle.trace_types.specs.tenant.Rows.{history_of}
use Rattle.trace_types.specs.text.Name.{Text}
use Rattle.line_protocol.specs.declared.line.Line.{Line}
use Rattle.line_protocol.specs.declared.line.Line.TheVariants.{Whole, TooLong as TooLongLine, End}
use Rattle.line_protocol.specs.Source.{Given}
use Rattle.line_protocol.specs.declared.line_reader.ReadFault.{ReadFault}
use Rattle.line_protocol.specs.declared.line_reader.ReadFault.TheVariants as read_fault
use Rattle.trace_export.specs.Edges.{Placing}
use Rattle.trace_export.specs.Following.{placing_of}
use Rattle.trace_export.specs.Graph.{IsKeptGraph}
use Rattle.trace_export.specs.Heading.{IsHeader, IsNoHeader, lines_ahead}
use Rattle.trace_export.specs.Loading.{limits_under}
use Rattle.trace_export.specs.ReadTo.{StopsAtLine, WasReadTo, WasReadToEnd}
use Rattle.trace_export.specs.Verdict.{IsVerdict, IsRightNext, IsFaulty}
use Rattle.trace_export.specs.declared.checked.Checked.{Checked}
use Rattle.trace_export.specs.declared.checked.Checked.TheVariants.{Due, Compared}
use Rattle.trace_export.specs.declared.follower.Follower.{Follower}
use Rattle.trace_export.specs.declared.graph.Graph.{Graph}
use Rattle.trace_export.specs.declared.header.Header.{Header}
use Rattle.trace_export.specs.declared.placed.Placed.{Placed}
use Rattle.trace_export.specs.declared.reason.Reason.{Reason}
use Rattle.trace_export.specs.declared.check_fault.CheckFault.{CheckFault}
use Rattle.trace_export.specs.declared.check_fault.CheckFault.TheVariants.{Read, TooLong}
use Rattle.trace_export.specs.declared.verdict.Verdict.{Verdict}
use Rattle.trace_export.specs.declared.verdict.Verdict.TheVariants.{Yes, No}

-- how a fault of reading is told
abbrev pub check_fault_of : ReadFault → CheckFault
check_fault_of read_fault.Read = Read
check_fault_of read_fault.TooLong = TooLong

-- All that the verdict speaks of was read: the input to its end, or the faulty line to its own.
abbrev pub SawAll : (before after : Given) → (came : List ℕ) → Verdict → Type 0
SawAll before after came (Yes count) = WasReadToEnd before after
SawAll before after came (No number reason) = WasReadTo number came before after

-- The verdict on what the reader gave, and on all that it may give after it.
pub record Judges (before after : Given) (verdict : Verdict) : Type 0 where
  pub came : List ℕ
  pub grows : after.bytes ≡ before.bytes ++ came
  pub all : SawAll before after came verdict
  pub is_due : (rest : List ℕ) → (IsTrue after.has_ended → rest ≡ []) → IsVerdict (came ++ rest) verdict

-- Nothing behind the faulty line was asked for, if there is one.
abbrev pub StopsReading : {R : Type 0} (seen : R → Given) (reader reader' : R) → Verdict → Type 0
StopsReading seen reader reader' (Yes count) = Unit {0}
StopsReading seen reader reader' (No number reason) = StopsAtLine seen number reader reader'

-- the text of a line that was found; of one that is too long it is not kept
abbrev pub IsTextFound : Line → Text → Text → Type 0
IsTextFound Whole line text = (text ≡ line) × (length line ≤ 65536)
IsTextFound TooLongLine line text = 65536 < length text
IsTextFound End line text = ⊥

-- At the end the one fact holds. Else the other holds of the text that was found.
abbrev pub HoldsOfFound : Line → Text → (at_end : Type 0) → (of_text : Text → Type 0) → Type 0
HoldsOfFound End line at_end of_text = at_end
HoldsOfFound found line at_end of_text = (text : Text) → IsTextFound found line text → of_text text

-- ---- what is kept of the lines so far

-- the header, if the first line is one
abbrev pub header_in : Checked → Option Header
header_in (Due follower graph) = follower.header
header_in (Compared header graph) = header

-- what the lines of events list
abbrev pub placing_in : Checked → Placing
placing_in (Due follower graph) = placing_of (history_of follower.ledger.rows)
placing_in (Compared header graph) = graph.placed.items

-- The tenant has the limits of the header, and no more events than an export may list. Nothing is in the graph.
pub record IsFollowing (follower : Follower) (graph : Graph) : Type 0 where
  pub limits : follower.ledger.limits ≡ limits_under follower.header
  pub few : length follower.ledger.rows ≤ 16384
  pub none : graph.placed.items ≡ []
  pub kept : IsKeptGraph graph

abbrev pub IsKept : Checked → Type 0
IsKept (Due follower graph) = IsFollowing follower graph
IsKept (Compared header graph) = IsKeptGraph graph

-- ---- one line more, behind this header and lines that list these events

-- it may be the first, and is then no header
abbrev pub IsNoFirstOf : Option Header → Placing → Text → Type 0
IsNoFirstOf header placing text = header ≡ None → placing ≡ [] → IsNoHeader text

-- The line, which has this text, is the first one and this header.
pub record IsHeaded (header : Option Header) (placing : Placing) (text : Text) (new : Checked) : Type 0 where
  pub first : Header
  pub begins : (header ≡ None) × (placing ≡ [])
  pub is : IsHeader text first
  pub headed : header_in new ≡ Some first
  pub none : placing_in new ≡ []
  pub kept : IsKept new

-- A line with this text is right, and its event is kept. It is no header if it is the first one.
pub record IsEventKept (header : Option Header) (placing : Placing) (text : Text) (new : Checked) : Type 0 where
  pub placed : Placed
  pub no_header : IsNoFirstOf header placing text
  pub same : header_in new ≡ header
  pub right : IsRightNext placing text placed
  pub more : placing_in new ≡ placing ++ placed ∷ []
  pub kept : IsKept new

-- it is one of both
abbrev pub IsRightAfter : Option Header → Placing → Text → Checked → Type 0
IsRightAfter header placing text new = IsHeaded header placing text new ⊎ IsEventKept header placing text new

-- A line with this text is faulty for this reason. It is no header if it is the first one.
pub record IsRefused (reason : Reason) (header : Option Header) (placing : Placing) (text : Text) : Type 0 where
  pub no_header : IsNoFirstOf header placing text
  pub faulty : IsFaulty reason placing text

-- The event of the line is added to the graph, or the line is a header or faulty. It is a header only if it may be the first.
abbrev pub IsAdded : Bool → Text → Graph → Graph → Result (Option Header) Reason → Type 0
IsAdded is_first text old new (Ok None) =
    (IsTrue is_first → IsNoHeader text)
    × ((placed : Placed) × IsRightNext old.placed.items text placed × (new.placed.items ≡ old.placed.items ++ placed ∷ []) × IsKeptGraph new)
IsAdded is_first text old new (Ok (Some header)) =
    IsTrue is_first × IsHeader text header × (new.placed.items ≡ old.placed.items) × IsKeptGraph new
IsAdded is_first text old new (Err reason) = (IsTrue is_first → IsNoHeader text) × IsFaulty reason old.placed.items text

-- the line is right, and is kept; or it is faulty, and the verdict says so
abbrev pub IsJudgedAs : Option Verdict → Checked → Checked → Text → Type 0
IsJudgedAs None old new text = IsRightAfter (header_in old) (placing_in old) text new
IsJudgedAs (Some (Yes count)) old new text = ⊥
IsJudgedAs (Some (No number reason)) old new text =
    (number ≡ lines_ahead (header_in old) + suc (length (placing_in old))) × IsRefused reason (header_in old) (placing_in old) text

-- What is answered if this was found. At the end it is that all lines were right.
abbrev pub IsJudged : Line → Text → Option Verdict → Checked → Checked → Type 0
IsJudged found line verdict old new =
    HoldsOfFound found line (verdict ≡ Some (Yes (length (placing_in old)))) (IsJudgedAs verdict old new)
