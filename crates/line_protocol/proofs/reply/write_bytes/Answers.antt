use Rattle.line_protocol.proofs.PatientTexts.{Writes-patiently}
use Rattle.line_protocol.proofs.reply.write_bytes.Goals as goal

pub returns : goal.returns
returns g c =
    Writes-patiently (g.W.Sink.seen c.args.writer.now) (g.W.Sink.seen c.write_piece.new.writer) c.write_piece.new.patience c.args.bytes.now c.write_piece.result
    c.write_piece.ensures.written c.write_piece.ensures.tries c.write_piece.ensures.no_wait
