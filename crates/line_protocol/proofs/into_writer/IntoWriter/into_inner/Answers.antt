use Rattle.line_protocol.specs.Calls.{bytes_moved}
use Rattle.line_protocol.proofs.CallLemmas.{held_before-inside}
use Rattle.line_protocol.proofs.into_writer.IntoWriter.into_inner.Goals as goal

pub returns : goal.returns
returns g c = record { holds = held_before-inside (bytes_moved c.args.self.log.calls) (g.W.Write.contents c.args.self.writer) }
