use Rattle.std.proofs.Common.{ℕ, ◌≤◌, Result, Ok, Err, IfOk, List, length, arith}
use Rattle.line_protocol.specs.declared.stop.Stop.{Stop}
use Rattle.line_protocol.specs.Source.{bytes_read}
use Rattle.line_protocol.proofs.RefillLemmas.{refilled}
use Rattle.line_protocol.proofs.source.refill.Goals as goal

fits : (r : Result ℕ Stop) (buffer : List ℕ) → IfOk r (λ n. n ≤ length buffer) → bytes_read r ≤ length buffer
fits (Ok n) buffer h = h
fits (Err stop) buffer h = omega arith

pub returns-clause-comes : goal.returns-clause-comes
returns-clause-comes g c =
    refilled _ _ _ _ _ _ _ _ c.read_some.result c.requires.from c.requires.to c.copy_within.ensures.after c.read_some.ensures.reads.bytes
    (fits c.read_some.result c.read_some.new.buffer c.read_some.ensures.bound)
