use Rattle.line_protocol.proofs.PatienceLemmas.{TriesToWrite-then}
use Rattle.line_protocol.proofs.pieces.write_pieces.Goals as goal

pub returns-clause-tries : goal.returns-clause-tries
returns-clause-tries g c = TriesToWrite-then c.in_ok-write_piece.ensures.tries c.write_piece-2.ensures.tries
