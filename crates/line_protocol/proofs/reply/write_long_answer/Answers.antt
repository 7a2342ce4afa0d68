use Rattle.std.proofs.Common.{◌++◌, codes}
use Rattle.trace_types.specs.text.Text.{reply_text}
use Rattle.line_protocol.proofs.PatientTexts.{WritesBoth-second}
use Rattle.line_protocol.proofs.reply.write_long_answer.Goals as goal

pub returns : goal.returns
returns g c =
    WritesBoth-second (g.W.Sink.seen c.args.writer.now) (g.W.Sink.seen c.write_prefix.new.writer) (g.W.Sink.seen c.write_reply.new.writer)
    (c.args.addressee.now ++ codes " ") (reply_text c.args.reply.now ++ codes "\n") c.write_reply.result c.in_ok-write_prefix.ensures c.write_reply.ensures
