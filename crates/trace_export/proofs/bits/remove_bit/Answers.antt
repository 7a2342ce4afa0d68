use Rattle.trace_export.proofs.BitSets.{without_bit-others}
use Rattle.trace_export.proofs.bits.remove_bit.Goals as goal

pub returns-clause-others : goal.returns-clause-others
returns-clause-others c = λ m other has. without_bit-others c.args.words.now c.args.n m c.requires other has
