use Rattle.line_protocol.proofs.PatienceLemmas.{TriesToWrite-then}
use Rattle.line_protocol.proofs.PatientTexts.{GathersText-written}
use Rattle.line_protocol.proofs.gather.gather_bytes.Goals as goal

pub returns-clause-gathered : goal.returns-clause-gathered
returns-clause-gathered g c =
    GathersText-written (g.W.Sink.seen c.args.writer.now) (g.W.Sink.seen c.write_gathered.new.writer) (g.W.Sink.seen c.write_piece.new.writer)
    c.args.text.now c.write_gathered.new.text c.args.bytes.now c.write_piece.result
    c.in_ok-write_gathered.ensures.gathered c.in_ok-write_gathered.ensures.none c.write_piece.ensures.written

pub returns-clause-tries : goal.returns-clause-tries
returns-clause-tries g c = TriesToWrite-then c.in_ok-write_gathered.ensures.tries c.write_piece.ensures.tries
