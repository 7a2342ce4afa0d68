-- What the rows of a parse have after one more value.
use Rattle.std.proofs.Common.{◌≡◌, ◌∙◌, Bool, true, false, cond, List, [], ◌∷◌, ◌++◌, Option, Some, None, refl, ap, append_assoc}
use Rattle.std.specs.List.{find}
use Rattle.std.specs.Str.{bytes_eq}
use Rattle.std.proofs.lemmas.Slice.Eq.{bytes_eq-Decides}
use Rattle.clap.specs.Words.{Row, Text}
use Rattle.clap.specs.Walk.{has_row, stronger, with_values, without}
use Rattle.clap.specs.declared.builder.value_parser.Reading.{Reading}
use Rattle.clap.specs.declared.parser.matches.ValueSource.{ValueSource}
use Rattle.clap.specs.declared.parser.matches.ValueSource.TheVariants.{DefaultValue, CommandLine}

-- the first row of this id
abbrev pub row_in : Text → List Row → Option Row
row_in id rows = find (λ r. bytes_eq r.id id) rows

stronger_line : (source : Option ValueSource) → stronger source CommandLine ≡ CommandLine
stronger_line None = refl
stronger_line (Some DefaultValue) = refl
stronger_line (Some CommandLine) = refl

-- values that come in two turns
pub twice : (id : Text) (how : Reading) (vs ws : List Text) (rows : List Row) → bytes_eq id id ≡ true
    → with_values id how CommandLine (vs ++ ws) rows ≡ with_values id how CommandLine ws (with_values id how CommandLine vs rows)
twice id how vs ws [] same = rw same refl
twice id how vs ws (r ∷ rs) same = go (bytes_eq r.id id) refl (twice id how vs ws rs same)
  where
    go : (b : Bool) → bytes_eq r.id id ≡ b
        → with_values id how CommandLine (vs ++ ws) rs ≡ with_values id how CommandLine ws (with_values id how CommandLine vs rs)
        → with_values id how CommandLine (vs ++ ws) (r ∷ rs) ≡ with_values id how CommandLine ws (with_values id how CommandLine vs (r ∷ rs))
    go true is later = rw (is, is, append_assoc r.values vs ws, stronger_line r.source) refl
    go false is later = rw (is, is) (ap (λ rows. r ∷ rows) later)

-- a row with these values more
abbrev pub grown : Text → Reading → List Text → Option Row → Row
grown id how vs None = record { id = id; values = vs; count = None; source = Some CommandLine; reading = how }
grown id how vs (Some r) = record r { values = r.values ++ vs; source = Some CommandLine }

pub row_with : (id : Text) (how : Reading) (vs : List Text) (rows : List Row) → bytes_eq id id ≡ true
    → row_in id (with_values id how CommandLine vs rows) ≡ Some (grown id how vs (row_in id rows))
row_with id how vs [] same = rw same refl
row_with id how vs (r ∷ rs) same = go (bytes_eq r.id id) refl (row_with id how vs rs same)
  where
    go : (b : Bool) → bytes_eq r.id id ≡ b → row_in id (with_values id how CommandLine vs rs) ≡ Some (grown id how vs (row_in id rs))
        → row_in id (with_values id how CommandLine vs (r ∷ rs)) ≡ Some (grown id how vs (row_in id (r ∷ rs)))
    go true is later = rw (is, is, stronger_line r.source) refl
    go false is later = rw (is, is) later

pub row_beside : (id other : Text) (how : Reading) (vs : List Text) (rows : List Row) → bytes_eq id other ≡ false
    → row_in other (with_values id how CommandLine vs rows) ≡ row_in other rows
row_beside id other how vs [] apart = rw apart refl
row_beside id other how vs (r ∷ rs) apart = go (bytes_eq r.id id) refl (row_beside id other how vs rs apart)
  where
    go : (b : Bool) → bytes_eq r.id id ≡ b → row_in other (with_values id how CommandLine vs rs) ≡ row_in other rs
        → row_in other (with_values id how CommandLine vs (r ∷ rs)) ≡ row_in other (r ∷ rs)
    go true is later =
        let no : bytes_eq r.id other ≡ false = ap (λ text. bytes_eq text other) ((bytes_eq-Decides r.id id).0 is) ∙ apart in
        rw (is, no) refl
    go false is later = rw is (ap (λ row. cond (bytes_eq r.id other) (Some r) row) later)

-- where there is no row
pub unfound : (id : Text) (rows : List Row) → row_in id rows ≡ None → (without id rows ≡ rows) × (has_row id rows ≡ false)
unfound id [] none = (refl, refl)
unfound id (r ∷ rs) none = go (bytes_eq r.id id) refl none (unfound id rs)
  where
    go : (b : Bool) → bytes_eq r.id id ≡ b → cond b (Some r) (row_in id rs) ≡ None
        → (row_in id rs ≡ None → (without id rs ≡ rs) × (has_row id rs ≡ false))
        → (without id (r ∷ rs) ≡ r ∷ rs) × (has_row id (r ∷ rs) ≡ false)
    go true is e later = cc
    go false is e later = rw is (ap (λ rows. r ∷ rows) (later e).0, (later e).1)
