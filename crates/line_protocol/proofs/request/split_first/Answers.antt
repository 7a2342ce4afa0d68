use Rattle.std.proofs.Common.{◌+◌}
use Rattle.std.proofs.lemmas.List.{take_rest}
use Rattle.line_protocol.proofs.WordsLemmas.{words-cut, words-whole}
use Rattle.line_protocol.proofs.request.split_first.Goals as goal

pub returns-in-Some : goal.returns-in-Some
returns-in-Some c = rw (take_rest c.args.bytes.now (c.in-Some.at + 1)) (words-cut c.args.bytes.now c.in-Some.at c.in-Some.ensures)

pub returns-in-None : goal.returns-in-None
returns-in-None c = words-whole c.args.bytes.now c.in-None.ensures
