-- What a check of bytes answers.
use Rattle.std.specs.Prelude.{◌≡◌, ℕ, suc, ◌+◌, ◌<◌, ◌≤◌, List, [], ◌∷◌, ◌++◌, length, All, Option}
use Rattle.std.specs.List.Sorted.{IsStrictlyIncreasing}
use Rattle.trace_types.specs.text.Name.{Text}
use Rattle.trace_types.specs.text.Lines.{lines}
use Rattle.trace_types.specs.clock.Id.{Id}
use Rattle.trace_types.specs.clock.EventTree.{EventTree}
use Rattle.serde_json.specs.Data.{Data}
use Rattle.stamp_codec.specs.StampText.{Written, written_tree}
use Rattle.stamp_codec.specs.Reading.{SpellsNormal}
use Rattle.trace_export.specs.Listing.{Listed, ListsAs, IsReadAs}
use Rattle.trace_export.specs.Edges.{Placing, AreOrderedAlike, IsPlaced}
use Rattle.trace_export.specs.Heading.{AreParts, lines_ahead}
use Rattle.trace_export.specs.declared.header.Header.{Header}
use Rattle.trace_export.specs.declared.placed.Placed.{Placed}
use Rattle.trace_export.specs.declared.reason.Reason.{Reason}
use Rattle.trace_export.specs.declared.reason.Reason.TheVariants.{NoJson, NoEvent, Number, Preds, Stamp, Order}
use Rattle.trace_export.specs.declared.verdict.Verdict.{Verdict}
use Rattle.trace_export.specs.declared.verdict.Verdict.TheVariants.{Yes, No}

-- the line is JSON, and not too long
abbrev pub IsJsonLine : Text → Type 0
IsJsonLine line = (length line ≤ 65536) × ((json : Data) × IsReadAs line json)

-- the event has this number, and there may be so many
abbrev pub IsNumbered : Listed → ℕ → Type 0
IsNumbered listed number = (listed.event ≡ number) × (number ≤ 16384)

-- the events increase, and each is an earlier one than this
abbrev pub AreIncreasingBefore : List ℕ → ℕ → Type 0
AreIncreasingBefore events event = IsStrictlyIncreasing events × All (λ earlier. (0 < earlier) × (earlier < event)) events

-- the events that it follows do
abbrev pub FollowsEarlier : Listed → Type 0
FollowsEarlier listed = AreIncreasingBefore listed.preds listed.event

-- the text spells a stamp with this tree
abbrev pub IsStampTree : Text → EventTree → Type 0
IsStampTree text tree = (id : Id) × (written : Written) × SpellsNormal text id written × (tree ≡ written_tree written)

-- its stamp has this tree
abbrev pub HasTree : Listed → EventTree → Type 0
HasTree listed tree = IsStampTree listed.stamp tree

-- each earlier event and this one, which comes next, are ordered as the edges say
abbrev pub IsOrderedNext : Placing → Placed → Type 0
IsOrderedNext earlier placed =
    (other : ℕ) → IsPlaced earlier other → AreOrderedAlike (earlier ++ placed ∷ []) other (suc (length earlier))

-- the line lists this event, and is not too long
abbrev pub IsListing : Text → Listed → Type 0
IsListing line listed = (length line ≤ 65536) × ListsAs line listed

-- The listed event may be this one, with such edges and such a tree.
pub record IsPlacedAs (event : ℕ) (listed : Listed) (placed : Placed) : Type 0 where
  pub number : IsNumbered listed event
  pub preds : FollowsEarlier listed
  pub tree : HasTree listed placed.tree
  pub edges : placed.preds ≡ listed.preds

-- it may come next after these
abbrev pub ComesNext : Placing → Listed → Placed → Type 0
ComesNext earlier listed placed = IsPlacedAs (suc (length earlier)) listed placed

-- The line lists the event that comes next, which is ordered as the edges say.
pub record IsRightNext (earlier : Placing) (line : Text) (placed : Placed) : Type 0 where
  pub listed : Listed
  pub listing : IsListing line listed
  pub comes : ComesNext earlier listed placed
  pub ordered : IsOrderedNext earlier placed

-- after these events each line is right, the first as the next event, and then they are all listed
abbrev pub AreRightAfter : Placing → List Text → Placing → Type 0
AreRightAfter earlier [] placing = placing ≡ earlier
AreRightAfter earlier (line ∷ rest) placing =
    (placed : Placed) × IsRightNext earlier line placed × AreRightAfter (earlier ++ placed ∷ []) rest placing

-- why the event cannot be the one of this number, whatever came before
abbrev pub IsUnfitFor : Reason → ℕ → Listed → Type 0
IsUnfitFor Number number listed = ¬ IsNumbered listed number
IsUnfitFor Preds number listed = IsNumbered listed number × (¬ FollowsEarlier listed)
IsUnfitFor Stamp number listed = IsNumbered listed number × FollowsEarlier listed × ((tree : EventTree) → ¬ HasTree listed tree)
IsUnfitFor reason number listed = ⊥

-- why the event does not come next after these
abbrev pub IsRefusedFor : Reason → Placing → Listed → Type 0
IsRefusedFor Order earlier listed =
    (placed : Placed) × ComesNext earlier listed placed
    × ((other : ℕ) × IsPlaced earlier other × (¬ AreOrderedAlike (earlier ++ placed ∷ []) other (suc (length earlier))))
IsRefusedFor reason earlier listed = IsUnfitFor reason (suc (length earlier)) listed

-- the line after these is faulty for this reason, and for none that comes before it
abbrev pub IsFaulty : Reason → Placing → Text → Type 0
IsFaulty NoJson earlier line = ¬ IsJsonLine line
IsFaulty NoEvent earlier line = IsJsonLine line × ((listed : Listed) → ¬ ListsAs line listed)
IsFaulty reason earlier line = (listed : Listed) × IsListing line listed × IsRefusedFor reason earlier listed

-- the first faulty of these lines, which come after so many, and the first reason there
pub record FailsAt (ahead : ℕ) (all : List Text) (number : ℕ) (reason : Reason) : Type 0 where
  pub before : List Text
  pub line : Text
  pub rest : List Text
  pub splits : all ≡ before ++ line ∷ rest
  pub counts : number ≡ ahead + suc (length before)
  pub placing : Placing
  pub right : AreRightAfter [] before placing
  pub faulty : IsFaulty reason placing line

-- the verdict on lines of events, which come after so many: all are right and so many, or the first faulty one
abbrev pub IsVerdictOnEvents : ℕ → List Text → Verdict → Type 0
IsVerdictOnEvents ahead events (Yes count) = (count ≡ length events) × ((placing : Placing) × AreRightAfter [] events placing)
IsVerdictOnEvents ahead events (No number reason) = FailsAt ahead events number reason

-- The verdict on the bytes: that on the lines of events. A first line that is no header counts as one of these.
pub record IsVerdict (bytes : List ℕ) (verdict : Verdict) : Type 0 where
  pub header : Option Header
  pub events : List Text
  pub parts : AreParts (lines bytes) header events
  pub judged : IsVerdictOnEvents (lines_ahead header) events verdict
