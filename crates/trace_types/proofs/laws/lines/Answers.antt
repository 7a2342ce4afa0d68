use Rattle.std.proofs.Common.{refl}
use Rattle.trace_types.proofs.Lines.{lines-append_ended, lines_unended}
use Rattle.trace_types.proofs.laws.lines.Goals as goal

pub returns : goal.returns
returns c = record { ended = lines-append_ended; rest = lines_unended; none = refl }
