-- What it means that every line of an export is right.
use Rattle.std.specs.Prelude.{◌≡◌, ◌≤◌, ℕ, ◌-◌, IsTrue, List, [], ◌∷◌, length, Option, is_some, codes}
use Rattle.std.specs.List.{slice_index_or}
use Rattle.serde_json.specs.Data.{Data}
use Rattle.serde_json.specs.Find.{get}
use Rattle.trace_types.specs.text.Name.{Text}
use Rattle.trace_export.specs.Heading.{AreParts}
use Rattle.trace_export.specs.Listing.{Listed, IsReadAs, ListsAs}
use Rattle.trace_export.specs.Edges.{Placing, IsPlaced, listed_preds, listed_tree, AreOrderedAlike}
use Rattle.trace_export.specs.Verdict.{HasTree}
use Rattle.trace_export.specs.declared.header.Header.{Header}

-- the first line is JSON that is an object with the key `version`, and is not too long
abbrev pub TellsVersion : List Text → Type 0
TellsVersion [] = ⊥
TellsVersion (line ∷ rest) = (length line ≤ 65536) × ((json : Data) × IsReadAs line json × IsTrue (is_some (get (codes "version") json)))

-- the line of the event; of no event it is not asked
abbrev pub event_line : List Text → ℕ → Text
event_line these event = slice_index_or these (event - 1) []

-- the line lists the event, with its edges and its tree
pub record IsListedIn (line : Text) (placing : Placing) (event : ℕ) : Type 0 where
  pub listed : Listed
  pub lists : ListsAs line listed
  pub number : listed.event ≡ event
  pub preds : listed_preds placing event ≡ listed.preds
  pub tree : HasTree listed (listed_tree placing event)

-- Each line lists its event, and the trees of every two events compare, at every point, as they are connected by edges.
pub record AreGoodEvents (these : List Text) (placing : Placing) : Type 0 where
  pub counted : length these ≡ length placing
  pub listed : (event : ℕ) → IsPlaced placing event → IsListedIn (event_line these event) placing event
  pub ordered : (a b : ℕ) → IsPlaced placing a → IsPlaced placing b → AreOrderedAlike placing a b

-- The lines are an export: those of events, behind a header if there is one, are good.
pub record IsGoodExport (these : List Text) (placing : Placing) : Type 0 where
  pub header : Option Header
  pub events : List Text
  pub parts : AreParts these header events
  pub good : AreGoodEvents events placing
