-- A desk's rows as a log that only grows. Its first entry names its tenant. One word of it is stored: how many rows it has.
use Rattle.std.specs.Prelude.{ℕ, ◌≡◌, ◌==◌, true, List, [], ◌∷◌, ◌++◌, length, MatchBool}
use Rattle.logbook.specs.Pages.{Cell, Step, View, Book, Named}
use Rattle.trace_types.specs.text.Name.{Text}
use Rattle.trace_types.specs.declared.row.Row.{Row}
use Rattle.tenant_desk.specs.declared.row_log.Entry.{Entry}
use Rattle.tenant_desk.specs.declared.row_log.Entry.TheVariants as entry

-- Which log it is, and whose: the tenant that its first entry names.
pub record Log : Type 0 where
  pub identity : Book
  pub tenant : Text

-- the rows of a log up to some point, and which log it is
pub record Line : Type 0 where
  pub rows : List Row
  pub log : Log

-- the rows that the entries add
abbrev pub rows_in : List Entry → List Row
rows_in [] = []
rows_in (entry.Tenant name ∷ entries) = rows_in entries
rows_in (entry.Row row ∷ entries) = row ∷ rows_in entries

-- the first entry names a tenant
abbrev pub IsNamed : List Entry → Type 0
IsNamed [] = ⊥
IsNamed (entry.Tenant name ∷ entries) = Unit {0}
IsNamed (entry.Row row ∷ entries) = ⊥

-- the tenant that the first entry names
abbrev pub tenant_in : List Entry → Text
tenant_in [] = []
tenant_in (entry.Tenant name ∷ entries) = name
tenant_in (entry.Row row ∷ entries) = []

-- the one word of a log is the number of its rows
abbrev pub IsCounted : List Cell → List Entry → Type 0
IsCounted cells entries = cells ≡ (length (rows_in entries), true) ∷ []

-- the word that stores the number
abbrev pub head_of : Log → Named
head_of log = record { tracked = true; key = 0; book = log.identity }

-- the row stands behind all rows that were known of the log, where no other row stood there
abbrev pub Adds : Step Entry → View Entry ℕ → ℕ → View Entry ℕ → Type 0
Adds step known found now = MatchBool (found == step.old) (rows_in now.0 ≡ rows_in known.0 ++ rows_in (step.ask ∷ [])) (Unit {0})

-- the log with a row more
abbrev pub longer_by : Row → Line → Line
longer_by row line = record line { rows = line.rows ++ row ∷ [] }
