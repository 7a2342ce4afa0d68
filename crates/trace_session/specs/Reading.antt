-- The lines that a session reads.
use Rattle.std.specs.Prelude.{◌≡◌, ℕ, Bool, IsTrue, List, [], ◌++◌}
use Rattle.trace_types.specs.text.Name.{Text}
use Rattle.trace_types.specs.text.Lines.{lines}

-- The source gave more. These are the first lines of what was held and came, and then these bytes are left, however the
-- input goes on; where the source has told the end it does not go on.
pub record ReadsLines (given given' held left : List ℕ) (is_ended : Bool) (found : List Text) : Type 0 where
  pub gave : List ℕ
  pub grows : given' ≡ given ++ gave
  pub first : (rest : List ℕ) → (IsTrue is_ended → rest ≡ []) → lines (held ++ gave ++ rest) ≡ found ++ lines (left ++ rest)
