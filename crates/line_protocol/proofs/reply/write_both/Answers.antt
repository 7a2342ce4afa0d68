use Rattle.std.proofs.Common.{take, drop, subst}
use Rattle.std.proofs.lemmas.List.{take_rest}
use Rattle.line_protocol.specs.Sink.{Taken}
use Rattle.line_protocol.specs.Writing.{WritesBoth}
use Rattle.line_protocol.proofs.PatientTexts.{WritesBoth-at_once, between_of}
use Rattle.line_protocol.proofs.reply.write_both.Goals as goal

pub returns-then-take_both : goal.returns-then-take_both
returns-then-take_both g c =
    let before = g.W.Sink.seen c.args.writer.now in
    let after = g.W.Sink.seen c.take_both.new.self in
    let both = WritesBoth-at_once before after c.args.first_len c.args.text.now c.if-take_both.ensures.both in
    (between_of before after c.args.first_len c.args.text.now, both.0, both.1)

pub returns : goal.returns
returns g c =
    subst (λ (before : Taken). WritesBoth before (g.W.Sink.seen c.write_each.new.writer) c.write_each.result (take c.args.first_len c.args.text.now) (drop c.args.first_len c.args.text.now)) c.if-take_both.ensures.both
    (rw take_rest at c.write_each.ensures)
