-- What is seen of a sink that holds bytes back.
use Rattle.std.specs.Prelude.{ℕ, Bool, true, false, ◌&&◌, List, [], ◌∷◌, ◌++◌}
use Rattle.line_protocol.specs.Sink.{Taken}
use Rattle.line_protocol.specs.Patience.{SinkCall}

-- whether nothing is held
abbrev pub is_none_held : List ℕ → Bool
is_none_held [] = true
is_none_held (byte ∷ bytes) = false

-- These bytes were taken, by these calls in all, and not handed on to the sink of which this is seen.
abbrev pub held_back : List ℕ → List SinkCall → Taken → Taken
held_back held calls inside = record {
  bytes = inside.bytes ++ held;
  began = inside.began;
  is_flushed = inside.is_flushed && is_none_held held;
  failures = inside.failures;
  interruptions = inside.interruptions;
  calls = calls;
}
