use Rattle.std.proofs.Common.{arith}
use Rattle.trace_export.proofs.BitSets.{added-iff}
use Rattle.trace_export.proofs.bits.add_bits.Goals as goal

pub returns-clause-has : goal.returns-clause-has
returns-clause-has c = added-iff c.args.words.now c.loop-k.words c.args.others.now
    (λ j within. c.loop-k.invariant.added j (omega arith))
    (λ j past. c.loop-k.invariant.same j (omega arith))
