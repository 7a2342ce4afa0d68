-- How far a reader was read.
use Rattle.std.specs.Prelude.{◌≡◌, ℕ, ◌+◌, ◌<◌, ◌≤◌, ◌⊎◌, List, ◌++◌}
use Rattle.line_protocol.specs.Ends.{end_count}
use Rattle.line_protocol.specs.Source.{Given, HasToldEnd, LastRead}

-- A read since told the end of the input, and by then all its bytes were given.
abbrev pub WasReadToEnd : (before after : Given) → Type 0
WasReadToEnd before after = HasToldEnd after × (after.ends ≡ before.ends + 1)

-- The line of this number was read to its end: so many ends of line came, or a read since told the end.
abbrev pub WasReadTo : (number : ℕ) → (came : List ℕ) → (before after : Given) → Type 0
WasReadTo number came before after = (number ≤ end_count came) ⊎ WasReadToEnd before after

-- Since the start fewer ends of line came than this number.
pub record HasFewerEnds (number : ℕ) (start given : List ℕ) : Type 0 where
  pub came : List ℕ
  pub grows : given ≡ start ++ came
  pub few : end_count came < number

-- No read was made once the line of this number had its end: none was made, or the last one began before.
abbrev pub StopsAtLine : {R : Type 0} (seen : R → Given) (number : ℕ) (reader reader' : R) → Type 0
StopsAtLine seen number reader reader' = (reader' ≡ reader) ⊎ LastRead seen reader' (HasFewerEnds number (seen reader).bytes)
