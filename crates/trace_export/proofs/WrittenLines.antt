-- The lines of an export that is written: its header's text and that of each of its rows.
use Rattle.std.proofs.Common.{◌≡◌, ℕ, suc, ◌+◌, List, [], ◌∷◌, ◌++◌, length, refl, ap, ◌∙◌, arith}
use Rattle.std.specs.List.{AllByRecursion, concat}
use Rattle.serde_json.specs.Written.{compact_text}
use Rattle.trace_types.specs.text.Name.{Text}
use Rattle.trace_types.specs.text.Lines.{lines}
use Rattle.trace_types.specs.declared.row.Row.{Row}
use Rattle.trace_export.specs.Export.{listed_row, stamp_at, lines_after, export_lines}
use Rattle.trace_export.specs.Heading.{header_text}
use Rattle.trace_export.specs.Listing.{Listed, listed_json}
use Rattle.trace_export.specs.declared.header.Header.{Header}
use Rattle.trace_export.proofs.OneLine.{IsLine, lines-line}

-- what is listed of the row that comes after so many
abbrev pub next_listed : ℕ → Row → List Text → Listed
next_listed count row stamps = listed_row (suc count) row (stamp_at stamps (suc count))

-- its text
abbrev pub next_text : ℕ → Row → List Text → Text
next_text count row stamps = compact_text (listed_json (next_listed count row stamps))

-- the texts of these rows, without their ends of line
abbrev pub texts_after : ℕ → List Row → List Text → List Text
texts_after count [] stamps = []
texts_after count (row ∷ rows) stamps = next_text count row stamps ∷ texts_after (suc count) rows stamps

pub length-texts : (count : ℕ) (rows : List Row) (stamps : List Text) → length (texts_after count rows stamps) ≡ length rows
length-texts count [] stamps = refl
length-texts count (row ∷ rows) stamps = ap suc (length-texts (suc count) rows stamps)

-- each of them is a line
abbrev pub AreLines : List Text → Type 0
AreLines texts = AllByRecursion (λ text. IsLine text 65536) texts

lines_of_rows : (count : ℕ) (rows : List Row) (stamps : List Text) → AreLines (texts_after count rows stamps)
    → lines (concat (lines_after count rows stamps)) ≡ texts_after count rows stamps
lines_of_rows count [] stamps are = refl
lines_of_rows count (row ∷ rows) stamps are =
    lines-line (next_text count row stamps) (concat (lines_after (suc count) rows stamps)) 65536 are.0
    ∙ ap (λ others. next_text count row stamps ∷ others) (lines_of_rows (suc count) rows stamps are.1)

-- so they are the lines of the export, behind that of its header
pub lines_of_export : (header : Header) (rows : List Row) (stamps : List Text) → IsLine (header_text header) 65536 → AreLines (texts_after 0 rows stamps)
    → lines (concat (export_lines header rows stamps)) ≡ header_text header ∷ texts_after 0 rows stamps
lines_of_export header rows stamps first are =
    lines-line (header_text header) (concat (lines_after 0 rows stamps)) 65536 first
    ∙ ap (λ others. header_text header ∷ others) (lines_of_rows 0 rows stamps are)

-- ---- one row more

pub texts_push : (count : ℕ) (rows : List Row) (row : Row) (stamps : List Text)
    → texts_after count (rows ++ row ∷ []) stamps ≡ texts_after count rows stamps ++ next_text (count + length rows) row stamps ∷ []
texts_push count [] row stamps = ap (λ n. next_text n row stamps ∷ []) (omega arith)
texts_push count (first ∷ rows) row stamps =
    ap (λ texts. next_text count first stamps ∷ texts)
    (texts_push (suc count) rows row stamps ∙ ap (λ n. texts_after (suc count) rows stamps ++ next_text n row stamps ∷ []) (omega arith))

pub lines_push : (texts : List Text) (text : Text) → AreLines texts → IsLine text 65536 → AreLines (texts ++ text ∷ [])
lines_push [] text are is = (is, tt)
lines_push (first ∷ texts) text are is = (are.0, lines_push texts text are.1 is)
