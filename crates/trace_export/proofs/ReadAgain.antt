-- What is written of an export is read again.
use Rattle.std.proofs.Common.{◌≡◌, ℕ, suc, ◌+◌, ◌≤◌, false, ◌||◌, List, [], ◌∷◌, ◌++◌, length, take, Some, refl, sym, ap, subst, ◌∙◌, arith, IsUtf8}
use Rattle.std.specs.List.{slice_get}
use Rattle.std.proofs.lemmas.List.{length-take-le, take_all}
use Rattle.std.proofs.lemmas.Option.{slice_get_within, get_or_from_slice_get}
use Rattle.std.proofs.Math.Seq.{take-suc}
use Rattle.serde_json.specs.Data.{Data, depth, items_depth}
use Rattle.serde_json.specs.Read.{read, max_depth}
use Rattle.serde_json.specs.Written.{compact_text, has_float}
use Rattle.trace_types.specs.text.Name.{Text}
use Rattle.trace_types.specs.declared.row.Row.{Row}
use Rattle.trace_export.specs.Export.{listed_row, stamp_at, AreReadAgain}
use Rattle.trace_export.specs.Heading.{IsHeader, IsHeaderJson, header_json, header_text}
use Rattle.trace_export.specs.Listing.{Listed, IsReadAgain, IsReadAs, listed_json, numbers_json}
use Rattle.trace_export.specs.declared.header.Header.{Header}
use Rattle.trace_export.proofs.OneLine.{header_is_line}
use Rattle.trace_export.proofs.WrittenRows.{numbers_have_no_float}

-- the JSON is read again from its text, if it has no float and is no deeper than JSON may be
abbrev pub MayBeRead : Data → Type 0
MayBeRead json = has_float json ≡ false → depth json ≤ max_depth → IsReadAs (compact_text json) json

pub may_be_read : (json : Data) (text : Text) → (has_float json ≡ false → text ≡ compact_text json) → IsUtf8 text → (depth json ≤ max_depth → read text ≡ Some json) → MayBeRead json
may_be_read json text written utf8 reads exact shallow = subst (λ (these : Text). IsReadAs these json) (written exact) (utf8, reads shallow)

-- an event's JSON is no deeper
items_depth-numbers : (numbers : List ℕ) → items_depth (numbers_json numbers) ≡ 0
items_depth-numbers [] = refl
items_depth-numbers (n ∷ numbers) = omega (arith, items_depth-numbers numbers)

listed_depth : (listed : Listed) → depth (listed_json listed) ≤ max_depth
listed_depth listed = omega (arith, items_depth-numbers listed.preds)

-- and is read again
pub is_read_again : (json : Data) (listed : Listed) → json ≡ listed_json listed → MayBeRead json → IsReadAgain listed
is_read_again json listed is reads =
    let may : MayBeRead (listed_json listed) = subst MayBeRead is reads in
    may (ap (λ b. b || false) (numbers_have_no_float listed.preds)) (listed_depth listed)

-- so is a header's
pub is_header_again : (json : Data) (header : Header) → IsHeaderJson json header → MayBeRead json → IsHeader (header_text header) header
is_header_again json header is reads =
    let may : MayBeRead (header_json header) = subst MayBeRead is.written reads in
    let shallow : depth (header_json header) ≤ max_depth = omega arith in
    ((header_is_line header is.tenant is.limits).short, (header_json header, may refl shallow, record { written = refl; tenant = is.tenant; limits = is.limits }))

-- ---- rows

AreReadAgain-append : (count : ℕ) (rows more : List Row) (stamps : List Text) → AreReadAgain count rows stamps → AreReadAgain (count + length rows) more stamps
    → AreReadAgain count (rows ++ more) stamps
AreReadAgain-append count [] more stamps some others = subst (λ n. AreReadAgain n more stamps) (omega arith) others
AreReadAgain-append count (row ∷ rows) more stamps some others =
    (some.0, AreReadAgain-append (suc count) rows more stamps some.1 (subst (λ n. AreReadAgain n more stamps) (omega arith) others))

-- one row more is read again
pub read_next : (rows : List Row) (stamps : List Text) (count event : ℕ) (row : Row) → event ≡ suc count → slice_get rows count ≡ Some row
    → AreReadAgain 0 (take count rows) stamps → IsReadAgain (listed_row event row (stamp_at stamps event)) → AreReadAgain 0 (take event rows) stamps
read_next rows stamps count event row next is some read =
    let within = slice_get_within rows count row is in
    let len : 0 + length (take count rows) ≡ count = omega (arith, length-take-le count rows (omega (arith, within))) in
    let last : take (suc count) rows ≡ take count rows ++ row ∷ [] =
    take-suc rows count row within ∙ ap (λ r. take count rows ++ r ∷ []) (get_or_from_slice_get rows count row row is) in
    let same : event ≡ suc (0 + length (take count rows)) = omega (arith, next, len) in
    subst (λ n. AreReadAgain 0 (take n rows) stamps) (sym next)
    (subst (λ these. AreReadAgain 0 these stamps) (sym last)
    (AreReadAgain-append 0 (take count rows) (row ∷ []) stamps some (subst (λ n. IsReadAgain (listed_row n row (stamp_at stamps n))) same read, tt)))

-- all rows are
pub read_all : (rows : List Row) (stamps : List Text) (count : ℕ) → length rows ≤ count → AreReadAgain 0 (take count rows) stamps → AreReadAgain 0 rows stamps
read_all rows stamps count all read = subst (λ these. AreReadAgain 0 these stamps) (take_all count rows all) read

-- of some rows and one behind them
pub read_parts : (count : ℕ) (rows : List Row) (row : Row) (stamps : List Text) → AreReadAgain count (rows ++ row ∷ []) stamps
    → AreReadAgain count rows stamps × IsReadAgain (listed_row (suc (count + length rows)) row (stamp_at stamps (suc (count + length rows))))
read_parts count [] row stamps are = (tt, subst (λ n. IsReadAgain (listed_row (suc n) row (stamp_at stamps (suc n)))) (omega arith) are.0)
read_parts count (first ∷ rows) row stamps are =
    let rest = read_parts (suc count) rows row stamps are.1 in
    ((are.0, rest.0), subst (λ n. IsReadAgain (listed_row (suc n) row (stamp_at stamps (suc n)))) (omega arith) rest.1)
