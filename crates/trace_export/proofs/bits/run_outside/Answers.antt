use Rattle.std.proofs.Common.{arith}
use Rattle.trace_export.proofs.BitSets.{run_outside_is}
use Rattle.trace_export.proofs.bits.run_outside.Goals as goal

pub returns-clause-all : goal.returns-clause-all
returns-clause-all c = λ n least low.
    run_outside_is c.args.words.now c.args.ones.now c.args.others.now c.word_of.result c.word_of-2.result c.word_of-3.result c.args.from n c.word_of.ensures c.word_of-2.ensures c.word_of-3.ensures c.word_of.type_inv c.word_of-2.type_inv least
    (omega (arith, low, c.trailing_ones.ensures))
