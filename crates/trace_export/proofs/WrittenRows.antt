-- Rows that are written one after another.
use Rattle.std.proofs.Common.{◌≡◌, ℕ, zero, suc, ◌+◌, ◌<◌, ◌≤◌, IsTrue, true, false, List, [], ◌∷◌, ◌++◌, length, take, map, Some, refl, sym, ap, ◌∙◌, subst, arith, length-append, codes, ◌||◌, Result, Ok, Err, IfErr, IsErrAnd, IsAscii, IsUtf8}
use Rattle.std.specs.List.{list_all, slice_get, slice_index_or}
use Rattle.std.proofs.lemmas.Bool.Decides.{nat_tests}
use Rattle.std.proofs.lemmas.List.{map-append, take_all}
use Rattle.std.proofs.lemmas.Option.{same_Some, slice_get_within, slice_get-get_or}
use Rattle.std.proofs.lemmas.Str.{IsUtf8-from_ascii}
use Rattle.serde_json.specs.Data.{Data, item, Members, no_members, member, put, number, unsigned, string, array, object}
use Rattle.serde_json.specs.View.{view, items_of, items_view}
use Rattle.serde_json.specs.Written.{compact_text, has_float, items_have_float}
use Rattle.serde_json.specs.declared.value.Value.{Value}
use Rattle.trace_types.specs.text.Name.{Text, is_name, is_name_byte}
use Rattle.trace_types.specs.text.Text.{kind_text, name_text}
use Rattle.trace_types.specs.declared.row.Row.{Row}
use Rattle.line_protocol.specs.Sink.{Taken}
use Rattle.line_protocol.specs.Writing.{EndsInFault, GoesWrong, WritesPart, WritesWhole}
use Rattle.trace_export.specs.Export.{listed_row, stamp_at, lines_after, export_lines, WritesLines, BreaksLines}
use Rattle.trace_export.specs.Heading.{header_json, header_line}
use Rattle.trace_export.specs.Listing.{Listed, listed_line, listed_json, numbers_json}
use Rattle.trace_export.specs.declared.export_fault.ExportFault.{ExportFault}
use Rattle.trace_export.specs.declared.export_fault.ExportFault.TheVariants.{Write, Memory}
use Rattle.trace_export.specs.declared.header.Header.{Header}
use Rattle.trace_export.proofs.WrittenTexts.{WroteFirst, breaks_text, ends_after, wrote_all_texts, wrote_no_text, wrote_text}

-- the bytes of a name are ASCII
name_byte : (byte : ℕ) → is_name_byte byte ≡ true → byte < 128
name_byte byte is = grind (arith, nat_tests)

IsAscii-name : (text : Text) → list_all is_name_byte text ≡ true → IsAscii text
IsAscii-name [] all i = omega arith
IsAscii-name (byte ∷ text) all zero = name_byte byte (grind (arith, nat_tests))
IsAscii-name (byte ∷ text) all (suc i) = IsAscii-name text (grind (arith, nat_tests)) i

pub IsUtf8-name : (text : Text) → IsTrue (is_name text) → IsUtf8 text
IsUtf8-name text is = IsUtf8-from_ascii text (IsAscii-name text (grind (arith, nat_tests)))

-- one number more
pub numbers_push : (values : List Value) (value : Value) (numbers : List ℕ) (n : ℕ) → map view values ≡ map (λ n. number (unsigned n)) numbers → view value ≡ number (unsigned n)
    → map view (values ++ value ∷ []) ≡ map (λ n. number (unsigned n)) (numbers ++ n ∷ [])
numbers_push values value numbers n same is =
    map-append view values (value ∷ []) ∙ ap (λ all. all ++ view value ∷ []) same ∙ ap (λ last. map (λ n. number (unsigned n)) numbers ++ last ∷ []) is
    ∙ sym (map-append (λ n. number (unsigned n)) numbers (n ∷ []))

pub numbers_json-map : (numbers : List ℕ) → items_of (map (λ n. number (unsigned n)) numbers) ≡ numbers_json numbers
numbers_json-map [] = refl
numbers_json-map (n ∷ numbers) = ap (item (number (unsigned n))) (numbers_json-map numbers)

-- no number of events has a fraction
pub numbers_have_no_float : (numbers : List ℕ) → items_have_float (numbers_json numbers) ≡ false
numbers_have_no_float [] = refl
numbers_have_no_float (n ∷ numbers) = numbers_have_no_float numbers

-- six members in their order
six_members : (event kind name preds stamp task : Data)
    → put (codes "task") task (put (codes "stamp") stamp (put (codes "preds") preds (put (codes "name") name (put (codes "kind") kind (put (codes "event") event no_members)))))
    ≡ member (codes "event") event (member (codes "kind") kind (member (codes "name") name (member (codes "preds") preds (member (codes "stamp") stamp (member (codes "task") task no_members)))))
six_members event kind name preds stamp task = refl

pub json_built : (listed : Listed) (one two three four five six : Members) (event kind name preds stamp task : Data)
    → one ≡ put (codes "event") event no_members → two ≡ put (codes "kind") kind one → three ≡ put (codes "name") name two → four ≡ put (codes "preds") preds three
    → five ≡ put (codes "stamp") stamp four → six ≡ put (codes "task") task five
    → event ≡ number (unsigned listed.event) → kind ≡ string (kind_text listed.kind) → name ≡ string (name_text listed.name) → preds ≡ array (numbers_json listed.preds)
    → stamp ≡ string listed.stamp → task ≡ string listed.task → object six ≡ listed_json listed
json_built listed one two three four five six event kind name preds stamp task is1 is2 is3 is4 is5 is6 event_is kind_is name_is preds_is stamp_is task_is =
    rw (is6, is5, is4, is3, is2, is1, event_is, kind_is, name_is, preds_is, stamp_is, task_is)
    (ap object (six_members (number (unsigned listed.event)) (string (kind_text listed.kind)) (string (name_text listed.name)) (array (numbers_json listed.preds)) (string listed.stamp) (string listed.task)))

-- five members in their order
five_members : (events messages tasks tenant version : Data)
    → put (codes "version") version (put (codes "tenant") tenant (put (codes "tasks") tasks (put (codes "messages") messages (put (codes "events") events no_members))))
    ≡ member (codes "events") events (member (codes "messages") messages (member (codes "tasks") tasks (member (codes "tenant") tenant (member (codes "version") version no_members))))
five_members events messages tasks tenant version = refl

pub header_built : (header : Header) (one two three four five : Members) (events messages tasks tenant version : Data)
    → one ≡ put (codes "events") events no_members → two ≡ put (codes "messages") messages one → three ≡ put (codes "tasks") tasks two → four ≡ put (codes "tenant") tenant three
    → five ≡ put (codes "version") version four
    → events ≡ number (unsigned header.limits.events) → messages ≡ number (unsigned header.limits.messages) → tasks ≡ number (unsigned header.limits.tasks)
    → tenant ≡ string header.tenant → version ≡ number (unsigned 2) → object five ≡ header_json header
header_built header one two three four five events messages tasks tenant version is1 is2 is3 is4 is5 events_is messages_is tasks_is tenant_is version_is =
    rw (is5, is4, is3, is2, is1, events_is, messages_is, tasks_is, tenant_is, version_is)
    (ap object (five_members (number (unsigned header.limits.events)) (number (unsigned header.limits.messages)) (number (unsigned header.limits.tasks)) (string header.tenant) (number (unsigned 2))))

-- a row's JSON has none
has_no_float : (listed : Listed) → has_float (listed_json listed) ≡ false
has_no_float listed = ap (λ b. b || false) (numbers_have_no_float listed.preds)

-- the text of a row's JSON with the end of line is its line
pub line_is : (json : Data) (listed : Listed) (line : Text) → json ≡ listed_json listed → (has_float json ≡ false → line ≡ compact_text json ++ 10 ∷ [])
    → line ≡ listed_line listed
line_is json listed line is written = written (ap has_float is ∙ has_no_float listed) ∙ ap (λ json. compact_text json ++ 10 ∷ []) is

-- so it is with the header's
pub header_line_is : (json : Data) (header : Header) (line : Text) → json ≡ header_json header → (has_float json ≡ false → line ≡ compact_text json ++ 10 ∷ [])
    → line ≡ header_line header
header_line_is json header line is written = written (ap has_float is) ∙ ap (λ json. compact_text json ++ 10 ∷ []) is

-- the line of the row of this event
abbrev pub row_line : ℕ → Row → List Text → Text
row_line event row stamps = listed_line (listed_row event row (stamp_at stamps event))

some_line : (event : ℕ) (row : Row) (stamps : List Text) → 0 < length (row_line event row stamps)
some_line event row stamps = omega (arith, length-append (compact_text (listed_json (listed_row event row (stamp_at stamps event)))) (codes "\n"))

some_header : (header : Header) → 0 < length (header_line header)
some_header header = omega (arith, length-append (compact_text (header_json header)) (codes "\n"))

length-lines : (ahead : ℕ) (rows : List Row) (stamps : List Text) → length (lines_after ahead rows stamps) ≡ length rows
length-lines ahead [] stamps = refl
length-lines ahead (row ∷ rows) stamps = ap suc (length-lines (suc ahead) rows stamps)

-- the line at a row's place
line_at : (ahead : ℕ) (rows : List Row) (stamps : List Text) (place : ℕ) (row : Row) → slice_get rows place ≡ Some row
    → slice_get (lines_after ahead rows stamps) place ≡ Some (row_line (suc (ahead + place)) row stamps)
line_at ahead [] stamps place row is = absurd (cc is)
line_at ahead (first ∷ rows) stamps zero row is =
    ap (λ found. Some (row_line (suc ahead) found stamps)) (same_Some first row is) ∙ ap (λ n. Some (row_line n row stamps)) (omega arith)
line_at ahead (first ∷ rows) stamps (suc place) row is = line_at (suc ahead) rows stamps place row is ∙ ap (λ n. Some (row_line n row stamps)) (omega arith)

-- that of the next row, behind the header
next_line : (header : Header) (rows : List Row) (stamps : List Text) (count event : ℕ) (row : Row) → event ≡ suc count → slice_get rows count ≡ Some row
    → slice_get (export_lines header rows stamps) (suc count) ≡ Some (row_line event row stamps)
next_line header rows stamps count event row next is = line_at 0 rows stamps count row is ∙ ap (λ n. Some (row_line n row stamps)) (omega (arith, next))

-- The header and so many of the rows were written.
pub record WroteRows (before after : Taken) (header : Header) (rows : List Row) (stamps : List Text) (count : ℕ) : Type 0 where
  pub few : count ≤ length rows
  pub lines : WroteFirst before after (export_lines header rows stamps) (suc count)

pub wrote_header : {before after : Taken} (header : Header) (rows : List Row) (stamps : List Text) → WritesWhole before after (header_line header) → WroteRows before after header rows stamps 0
wrote_header {before} header rows stamps whole = record {
  few = omega arith;
  lines = wrote_text (header_line header) (some_header header) (wrote_no_text before (export_lines header rows stamps)) refl whole;
}

-- the header was not written
pub breaks_header : {before after : Taken} (fault : ExportFault) (header : Header) (rows : List Row) (stamps : List Text)
    → (fault ≡ Write → WritesPart before after (header_line header)) → (fault ≡ Memory → after ≡ before) → BreaksLines fault before after (export_lines header rows stamps)
breaks_header {before} fault header rows stamps part same = breaks_text fault (header_line header) (some_header header) (wrote_no_text before (export_lines header rows stamps)) refl part same

-- the next row was written
pub wrote_next : {before middle after : Taken} {header : Header} {rows : List Row} {stamps : List Text} {count : ℕ} (event : ℕ) (row : Row) → event ≡ suc count → WroteRows before middle header rows stamps count → slice_get rows count ≡ Some row
    → WritesWhole middle after (row_line event row stamps) → WroteRows before after header rows stamps event
wrote_next {before} {after = after} {header = header} {rows} {stamps} {count} event row next wrote is whole = record {
  few = omega (arith, next, slice_get_within rows count row is);
  lines = subst (λ n. WroteFirst before after (export_lines header rows stamps) (suc n)) (sym next)
      (wrote_text (row_line event row stamps) (some_line event row stamps) wrote.lines (next_line header rows stamps count event row next is) whole);
}

-- the next row was not written
pub breaks_next : {before middle after : Taken} {header : Header} {rows : List Row} {stamps : List Text} {count : ℕ} (fault : ExportFault) (event : ℕ) (row : Row) → event ≡ suc count → WroteRows before middle header rows stamps count → slice_get rows count ≡ Some row
    → (fault ≡ Write → WritesPart middle after (row_line event row stamps)) → (fault ≡ Memory → after ≡ middle) → BreaksLines fault before after (export_lines header rows stamps)
breaks_next {header = header} {rows} {stamps} {count} fault event row next wrote is part same =
    breaks_text fault (row_line event row stamps) (some_line event row stamps) wrote.lines (next_line header rows stamps count event row next is) part same

-- all rows were written
pub wrote_all : {before after : Taken} {header : Header} {rows : List Row} {stamps : List Text} {count : ℕ} → WroteRows before after header rows stamps count → length rows ≤ count → WritesLines before after (export_lines header rows stamps)
wrote_all {rows = rows} {stamps} wrote all = wrote_all_texts wrote.lines (omega (arith, all, length-lines 0 rows stamps))

pub ends_in_fault : {before middle after : Taken} {header : Header} {rows : List Row} {stamps : List Text} {count : ℕ} → WroteRows before middle header rows stamps count → GoesWrong middle after → EndsInFault before after
ends_in_fault wrote wrong = ends_after wrote.lines wrong

-- all the numbers
pub numbers_all : (values : List Value) (numbers : List ℕ) (count : ℕ) → map view values ≡ map (λ n. number (unsigned n)) (take count numbers) → length numbers ≤ count → items_view values ≡ numbers_json numbers
numbers_all values numbers count same all =
    ap items_of (same ∙ ap (map (λ n. number (unsigned n))) (take_all count numbers all)) ∙ numbers_json-map numbers

-- the row at the loop's place
pub row_at : (rows : List Row) (index count : ℕ) (row : Row) → count ≡ index → index < length rows → row ≡ slice_index_or rows index row → slice_get rows count ≡ Some row
row_at rows index count row same within is = ap (slice_get rows) same ∙ slice_get-get_or rows index row within ∙ ap Some (sym is)

-- what holds of a fault holds of one that is the same
pub IfErr-equal : {T E : Type 0} (P : E → Type 0) (result : Result T E) (error : E) → IsErrAnd result (λ e. e ≡ error) → P error → IfErr result P
IfErr-equal P (Ok value) error is h = tt
IfErr-equal P (Err e) error is h = subst P (sym is) h
