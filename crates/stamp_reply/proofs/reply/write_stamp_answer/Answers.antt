use Rattle.std.proofs.Common.{◌++◌, codes}
use Rattle.trace_types.specs.text.StampText.{stamp_text}
use Rattle.trace_types.specs.text.Text.{reply_text}
use Rattle.trace_types.specs.declared.reply.Reply.TheVariants.{Stamp}
use Rattle.line_protocol.proofs.PatientTexts.{WritesBoth-second}
use Rattle.stamp_reply.proofs.reply.write_stamp_answer.Goals as goal

pub returns : goal.returns
returns g c =
    WritesBoth-second (g.W.Sink.seen c.args.writer.now) (g.W.Sink.seen c.write_prefix.new.writer) (g.W.Sink.seen c.write_stamp_reply.new.writer)
    (c.args.addressee.now ++ codes " ") (reply_text (Stamp (stamp_text c.args.id.now c.args.tree.now)) ++ codes "\n") c.write_stamp_reply.result
    (rw c.as_bytes.ensures.text at c.in_ok-write_prefix.ensures) c.write_stamp_reply.ensures
