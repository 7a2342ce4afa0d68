-- Where the first line of some bytes ends.
use Rattle.std.specs.Prelude.{◌≡◌, ℕ, nat_lt, if◌then◌else◌, Bool, false, IsTrue, List, [], ◌∷◌, ◌++◌, ◌⊎◌, length, count_by, Option, None, Some, ◌==◌}
use Rattle.trace_types.specs.text.Name.{Text}
use Rattle.line_protocol.specs.declared.line.Line.{Line}
use Rattle.line_protocol.specs.declared.line.Line.TheVariants.{Whole, TooLong, End}

-- no end of line
abbrev pub HasNoEnd : List ℕ → Type 0
HasNoEnd [] = Unit {0}
HasNoEnd (byte ∷ bytes) = ((byte == 10) ≡ false) × HasNoEnd bytes

-- how many ends of line there are
abbrev pub end_count : List ℕ → ℕ
end_count bytes = count_by (λ byte. byte == 10) bytes

-- the first end of line
pub record EndsAt (bytes : List ℕ) (at : ℕ) : Type 0 where
  pub before : List ℕ
  pub after : List ℕ
  pub splits : bytes ≡ before ++ 10 ∷ after
  pub no_end : HasNoEnd before
  pub place : length before ≡ at

-- where the first end of line is, or that there is none
abbrev pub IsEnd : List ℕ → Option ℕ → Type 0
IsEnd bytes None = HasNoEnd bytes
IsEnd bytes (Some at) = EndsAt bytes at

-- The source gave more, and it was added to what was left.
pub record Comes (given given' left left' : List ℕ) : Type 0 where
  pub gave : List ℕ
  pub grows : given' ≡ given ++ gave
  pub adds : left' ≡ left ++ gave

-- The source gave more, with no end of line.
pub record Skipped (given given' : List ℕ) : Type 0 where
  pub skipped : List ℕ
  pub no_end : HasNoEnd skipped
  pub grows : given' ≡ given ++ skipped

-- The source gave more, up to an end of line and what is left, or up to the end of the input.
pub record Skips (given given' left' : List ℕ) (is_ended : Bool) : Type 0 where
  pub skipped : List ℕ
  pub no_end : HasNoEnd skipped
  pub grows : (given' ≡ given ++ (skipped ++ 10 ∷ left')) ⊎ ((given' ≡ given ++ skipped) × (left' ≡ []) × IsTrue is_ended)

-- what a line is, where so many bytes are the most
abbrev pub kind_of_length : ℕ → ℕ → Line
kind_of_length most n = if nat_lt most n then TooLong else Whole

abbrev pub kind_of : ℕ → Text → Line
kind_of most line = kind_of_length most (length line)

-- what the bytes after the last end of line are
abbrev pub last_line : ℕ → Text → Line
last_line most [] = End
last_line most (byte ∷ bytes) = kind_of most (byte ∷ bytes)
