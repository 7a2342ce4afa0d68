use Rattle.std.proofs.Common.{arith, ◌≡◌, ◌-◌, ◌≤◌, length, suc, ◌∙◌}
use Rattle.std.proofs.Math.Seq.{take-length}
use Rattle.line_protocol.proofs.EndsLemmas.{without_return-last, without_return-none}
use Rattle.line_protocol.proofs.ends.length_without_return.Goals as goal
use Rattle.line_protocol.proofs.ends.length_without_return.Goals.{else-len-gt0-via-then-len-gt0+else-piece-len-eq13, else-len-gt0-via-else-len-gt0}

pub returns-then-piece-len-eq13-clause-taken : goal.returns-then-piece-len-eq13-clause-taken
returns-then-piece-len-eq13-clause-taken c =
    let len : length c.args.piece.now ≡ suc (length c.args.piece.now - 1) = omega arith in
    without_return-last _ _ len c.if-piece-len-eq13.true

pub returns-else-len-gt0-clause-taken : goal.returns-else-len-gt0-clause-taken
returns-else-len-gt0-clause-taken c =
    take-length c.args.piece.now ∙
    elim c.else-len-gt0.branch [
      | else-len-gt0-via-then-len-gt0+else-piece-len-eq13 w ↦ without_return-none c.args.piece.now (λ _. w.if-piece-len-eq13.false)
      | else-len-gt0-via-else-len-gt0 w ↦
          let few : length c.args.piece.now ≤ 0 = w.if-len-gt0.false in
          without_return-none c.args.piece.now (λ more. absurd (omega arith))
    ]
