-- What serving tells.
use Rattle.std.specs.Prelude.{◌≡◌, ℕ, ◌++◌, ◌⊎◌, codes, decimal}
use Rattle.trace_types.specs.text.Name.{Text}
use Rattle.line_protocol.specs.Sink.{Taken}
use Rattle.line_protocol.specs.Writing.{EndsInFault}
use Rattle.trace_session.specs.declared.serving.ServeCounts.{ServeCounts}
use Rattle.collector.specs.Showing.{ShowsAll, ShowsFront}
use Rattle.collector.specs.declared.fault.Fault.{Fault}
use Rattle.collector.specs.declared.fault.Fault.TheVariants.{Words, Tenants, Port, Accept, Read, Write, TooLong, Memory}

-- the line that tells that programs can connect to this port
abbrev pub line_of_port : ℕ → Text
line_of_port port = codes "listening " ++ decimal port ++ codes "\n"

-- the line that tells what was served
abbrev pub line_of_counts : ServeCounts → Text
line_of_counts counts = codes "served " ++ decimal counts.sessions ++ codes " faults " ++ decimal counts.faults ++ codes "\n"

-- Programs were served at this port: so two lines tell, and as many connected as was asked for.
pub record Serves (port sessions : ℕ) (taken taken' : Taken) : Type 0 where
  pub counts : ServeCounts
  pub all : counts.sessions ≡ sessions
  pub lines : ShowsAll taken taken' (line_of_port port ++ line_of_counts counts)

-- A prefix of such two lines was written, and a write failed.
pub record ServesFront (port : ℕ) (taken taken' : Taken) : Type 0 where
  pub counts : ServeCounts
  pub lines : ShowsFront taken.bytes taken'.bytes (line_of_port port ++ line_of_counts counts)
  pub ends : EndsInFault taken taken'

-- Serving at this port was broken off by this fault. Nothing was written before the port was bound, and the first line before
-- any program was served.
abbrev pub ServesInPart : (fault : Fault) (port : ℕ) (taken taken' : Taken) → Type 0
ServesInPart Words port taken taken' = ⊥
ServesInPart Tenants port taken taken' = taken' ≡ taken
ServesInPart Port port taken taken' = taken' ≡ taken
ServesInPart Accept port taken taken' = ShowsAll taken taken' (line_of_port port)
ServesInPart Read port taken taken' = ⊥
ServesInPart Write port taken taken' = ServesFront port taken taken'
ServesInPart TooLong port taken taken' = ⊥
ServesInPart Memory port taken taken' = (taken' ≡ taken) ⊎ ShowsAll taken taken' (line_of_port port)
