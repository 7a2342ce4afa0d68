use Rattle.trace_export.proofs.BitSets.{with_bit-iff}
use Rattle.trace_export.proofs.bits.add_bit.Goals as goal

pub returns-clause-has : goal.returns-clause-has
returns-clause-has c = λ m. with_bit-iff c.args.words.now c.args.n m c.requires
