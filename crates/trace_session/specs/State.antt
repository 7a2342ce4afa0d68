-- Where a session stands.
use Rattle.line_protocol.specs.Held.{Held}
use Rattle.line_protocol.specs.Sink.{Taken}
use Rattle.line_protocol.specs.Source.{Given}
use Rattle.line_protocol.specs.declared.line_reader.LineReader.{LineReader}

-- what its source gave, what its line reader holds, and what its sink took
pub record State : Type 0 where
  pub given : Given
  pub held : Held
  pub taken : Taken

abbrev pub state : Given → Held → Taken → State
state given held taken = record { given = given; held = held; taken = taken }

-- the same, by the line reader and the writer
abbrev pub state_of : {R W : Type 0} → (R → Given) → (W → Taken) → LineReader R Held → W → State
state_of seen took lines writer = state (seen lines.source.now) lines.buffer (took writer)
