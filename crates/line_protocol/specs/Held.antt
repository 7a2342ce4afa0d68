-- What a line reader holds.
use Rattle.std.specs.Prelude.{ℕ, ◌^◌, Bool, false, List, []}
use Rattle.trace_types.specs.text.Name.{Text}

-- how many bytes a line has at most, and how many reads are made at most
pub record ReadingBounds : Type 0 where
  pub bytes : ℕ
  pub reads : ℕ

-- those of requests
abbrev pub request_bounds : ReadingBounds
request_bounds = record { bytes = 200; reads = 2 ^ 30 }

pub record Held : Type 0 where
  -- the line that was found last
  pub line : Text
  -- the bytes that were read and belong to no line yet
  pub left : List ℕ
  -- whether the source told the end
  pub is_ended : Bool
  -- how many reads were made
  pub reads : ℕ
  pub bounds : ReadingBounds

-- what is held before anything was read
abbrev pub fresh_within : ReadingBounds → Held
fresh_within bounds = record { line = []; left = []; is_ended = false; reads = 0; bounds = bounds }

abbrev pub fresh_held : Held
fresh_held = fresh_within request_bounds
