use Rattle.std.proofs.Common.{◌++◌, codes, arith}
use Rattle.line_protocol.proofs.PatientTexts.{Writes-patiently, OnOk-under}
use Rattle.line_protocol.proofs.reply.write_prefix.Goals as goal

pub returns : goal.returns
returns g c =
    Writes-patiently (g.W.Sink.seen c.args.writer.now) (g.W.Sink.seen c.write_pieces.new.writer) c.write_pieces.new.patience (c.args.addressee.now ++ codes " ") c.write_pieces.result
    c.write_pieces.ensures.written c.write_pieces.ensures.tries (OnOk-under _ _ _ c.write_pieces.result (omega arith) c.write_pieces.ensures.no_wait)
