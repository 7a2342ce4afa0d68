use Rattle.trace_session.proofs.Refusing.{TurnsAway-stopped, TurnsAway-written}
use Rattle.trace_session.proofs.output.Output.refuse.Goals as goal

pub returns-in_err-put_out-clause-refuses : goal.returns-in_err-put_out-clause-refuses
returns-in_err-put_out-clause-refuses g c =
    TurnsAway-stopped c.args.code (g.W.Sink.seen c.args.self.now.writer.now) (g.W.Sink.seen c.put_out.new.self.writer.now) c.from_residual.result c.in_err-put_out.field-0.0 c.from_residual.ensures.1 c.in_err-put_out.ensures.put_out

pub returns-clause-refuses : goal.returns-clause-refuses
returns-clause-refuses g c =
    TurnsAway-written c.args.code (g.W.Sink.seen c.args.self.now.writer.now) (g.W.Sink.seen c.put_out.new.self.writer.now) (g.W.Sink.seen c.finish.new.self.writer.now) c.finish.result c.in_ok-put_out.ensures.put_out c.finish.ensures.finishes
