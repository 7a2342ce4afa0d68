use Rattle.line_protocol.proofs.PatienceLemmas.{TriesToWrite-then}
use Rattle.std.proofs.lemmas.List.{take_rest}
use Rattle.line_protocol.proofs.PatientTexts.{WritesText-rest}
use Rattle.line_protocol.proofs.pieces.write_piece.Goals as goal

pub returns-clause-written : goal.returns-clause-written
returns-clause-written g c =
    WritesText-rest (g.W.Sink.seen c.args.writer.now) (g.W.Sink.seen c.write_once.new.writer) (g.W.Sink.seen c.write_rest.new.writer)
    c.in_ok-count.count c.args.piece.now c.write_rest.result c.in_ok-count.ensures.ok (rw take_rest at c.write_rest.ensures.written)

pub returns-clause-tries : goal.returns-clause-tries
returns-clause-tries g c = TriesToWrite-then c.in_ok-count.ensures.tries c.write_rest.ensures.tries
