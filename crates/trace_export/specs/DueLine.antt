-- The line that an export has of an event whose row, task's id and tree are known.
use Rattle.std.specs.Prelude.{◌≡◌, ◌≢◌, ◌<◌, ◌^◌, ℕ, All, IfSome, IsTrue, List, MatchOption, Option, ◌++◌, codes, false}
use Rattle.std.specs.Borrow.{Bor}
use Rattle.std.specs.Fmt.{decimal}
use Rattle.serde_json.specs.Written.{compact_text, items_text}
use Rattle.trace_types.specs.clock.EventTree.{EventTree, maximum}
use Rattle.trace_types.specs.clock.Id.{Id}
use Rattle.trace_types.specs.declared.row.Row.{Row}
use Rattle.trace_types.specs.text.Name.{Text, is_name}
use Rattle.trace_types.specs.text.StampText.{stamp_text}
use Rattle.trace_types.specs.text.Text.{kind_text, name_text}
use Rattle.trace_export.specs.Export.{listed_row}
use Rattle.trace_export.specs.Listing.{Listed, listed_json, numbers_json}

-- what is listed of the event
abbrev pub due_listed : ℕ → Row → Id → EventTree → Listed
due_listed number row id tree = listed_row number row (stamp_text id tree)

-- its line, without its end
abbrev pub due_line : ℕ → Row → Id → EventTree → Text
due_line number row id tree = compact_text (listed_json (due_listed number row id tree))

-- The words of the row are names, and the numbers fit 64 bits.
pub record IsSpelled (event : ℕ) (row : Row) (tree : EventTree) : Type 0 where
  pub number : event < 2 ^ 64
  pub name : IfSome row.name (λ name. IsTrue (is_name name))
  pub preds : All (λ n. n < 2 ^ 64) row.preds
  pub task : IsTrue (is_name row.task)
  pub values : maximum tree < 2 ^ 64

-- the line of an event whose words need no escapes, piece by piece
abbrev pub due_text : ℕ → Row → (stamp : Text) → Text
due_text number row stamp =
    codes "{\"event\":" ++ decimal number ++ codes ",\"kind\":\"" ++ kind_text row.kind ++ codes "\",\"name\":\"" ++ name_text row.name ++ codes "\",\"preds\":["
    ++ items_text false (numbers_json row.preds) ++ codes ",\"stamp\":\"" ++ stamp ++ codes "\",\"task\":\"" ++ row.task ++ codes "\"}"

-- ---- for private clauses: pieces that are looked for one behind the other

-- what is behind these bytes at the front of the text, or nothing exactly if they are not there
abbrev pub Strips : Text → Text → Option (Bor (List ℕ)) → Type 0
Strips text spelled found = MatchOption found ((rest : List ℕ) → text ≢ spelled ++ rest) (λ rest. text ≡ spelled ++ rest.now)

-- The piece is looked for behind whatever was found before.
pub record StripsOn (text : Option (Bor (List ℕ))) (piece : Text) (found : Option (Bor (List ℕ))) : Type 0 where
  pub behind : (whole front : Text) → Strips whole front text → Strips whole (front ++ piece) found
