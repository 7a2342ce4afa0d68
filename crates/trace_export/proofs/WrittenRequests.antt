-- The lines of requests, one by one.
use Rattle.std.proofs.Common.{◌≡◌, ◌<◌, ℕ, List, ◌++◌, length, Option, Some, None, refl, sym, ap, ◌∙◌, arith, codes, length-append, append_assoc}
use Rattle.std.specs.List.{slice_get, slice_index_or}
use Rattle.std.specs.Option.{option_map}
use Rattle.std.proofs.lemmas.List.{length-map}
use Rattle.std.proofs.lemmas.Option.{slice_get-map}
use Rattle.trace_types.specs.text.Name.{Text}
use Rattle.trace_types.specs.text.Text.{kind_text, request_text}
use Rattle.trace_types.specs.declared.row.Kind.{Kind}
use Rattle.trace_types.specs.declared.row.Kind.TheVariants.{Local, Spawn, Send, Recv, End, Join}
use Rattle.trace_types.specs.declared.row.Row.{Row}
use Rattle.trace_export.specs.Listing.{FitsKind}
use Rattle.trace_export.specs.Loading.{request_for, request_line, request_lines, row_request}
use Rattle.trace_export.proofs.WrittenRows.{row_at}

-- the line at the loop's place
pub line_at : (tenant : Text) (rows : List Row) (index : ℕ) (row : Row) → index < length rows → row ≡ slice_index_or rows index row → slice_get (request_lines tenant rows) index ≡ Some (request_line tenant row)
line_at tenant rows index row within is =
    slice_get-map (request_line tenant) rows index ∙ ap (λ (found : Option Row). option_map (request_line tenant) found) (row_at rows index index row refl within is)

-- no line is empty
pub some_line : (tenant : Text) (row : Row) → 0 < length (request_line tenant row)
some_line tenant row = omega (arith, length-append (tenant ++ codes " " ++ request_text (row_request row)) (codes "\n"))

pub length-request_lines : (tenant : Text) (rows : List Row) → length (request_lines tenant rows) ≡ length rows
length-request_lines tenant rows = length-map rows (request_line tenant)

-- the text of a request that names nothing
text_alone : (kind : Kind) (task : Text) → FitsKind kind None → request_text (request_for kind task None) ≡ kind_text kind ++ codes " " ++ task
text_alone Local task fits = refl
text_alone End task fits = refl
text_alone Spawn task fits = absurd (cc fits.1)
text_alone Send task fits = absurd (cc fits.1)
text_alone Recv task fits = absurd (cc fits.1)
text_alone Join task fits = absurd (cc fits.1)

-- and of one that names something
text_naming : (kind : Kind) (task name : Text) → FitsKind kind (Some name) → request_text (request_for kind task (Some name)) ≡ kind_text kind ++ codes " " ++ task ++ codes " " ++ name
text_naming Local task name fits = absurd (cc fits)
text_naming End task name fits = absurd (cc fits)
text_naming Spawn task name fits = refl
text_naming Send task name fits = refl
text_naming Recv task name fits = refl
text_naming Join task name fits = refl

regroup_alone : (front kind blank task end : List ℕ) → front ++ kind ++ blank ++ task ++ end ≡ front ++ (kind ++ blank ++ task) ++ end
regroup_alone front kind blank task end = simp append_assoc

regroup_naming : (front kind blank task other name end : List ℕ) → front ++ kind ++ blank ++ task ++ other ++ name ++ end ≡ front ++ (kind ++ blank ++ task ++ other ++ name) ++ end
regroup_naming front kind blank task other name end = simp append_assoc

-- so are the lines
pub line_alone_is : (tenant : Text) (kind : Kind) (task : Text) → FitsKind kind None
    → tenant ++ codes " " ++ kind_text kind ++ codes " " ++ task ++ codes "\n" ≡ tenant ++ codes " " ++ request_text (request_for kind task None) ++ codes "\n"
line_alone_is tenant kind task fits =
    regroup_alone (tenant ++ codes " ") (kind_text kind) (codes " ") task (codes "\n")
    ∙ ap (λ text. tenant ++ codes " " ++ text ++ codes "\n") (sym (text_alone kind task fits))

pub line_naming_is : (tenant : Text) (kind : Kind) (task name : Text) → FitsKind kind (Some name)
    → tenant ++ codes " " ++ kind_text kind ++ codes " " ++ task ++ codes " " ++ name ++ codes "\n" ≡ tenant ++ codes " " ++ request_text (request_for kind task (Some name)) ++ codes "\n"
line_naming_is tenant kind task name fits =
    regroup_naming (tenant ++ codes " ") (kind_text kind) (codes " ") task (codes " ") name (codes "\n")
    ∙ ap (λ text. tenant ++ codes " " ++ text ++ codes "\n") (sym (text_naming kind task name fits))
