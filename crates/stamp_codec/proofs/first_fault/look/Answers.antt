use Rattle.std.proofs.Common.{length, drop, ap, arith, ◌∙◌}
use Rattle.std.proofs.lemmas.Result.{err_from_is_err_and}
use Rattle.stamp_codec.proofs.Outcomes.{ends_in_id, ends_in_tree, looked}
use Rattle.stamp_codec.proofs.first_fault.look.Goals as goal

pub returns-in_err-look_at_id : goal.returns-in_err-look_at_id
returns-in_err-look_at_id c =
    let p = err_from_is_err_and c.from_residual.result c.from_residual.ensures.1 in
    let same = ap (λ t. length t) c.new-cursor.ensures.rest in
    λ id tree spells. rw (p.1, p.2) (ends_in_id _ _ _ _ (c.skip.ensures.rest ∙ ap (λ t. drop 1 t) c.new-cursor.ensures.rest) (omega (arith, same)) c.in_err-look_at_id.ensures.exact id tree spells)

pub returns-in_err-look_at_tree : goal.returns-in_err-look_at_tree
returns-in_err-look_at_tree c =
    let p = err_from_is_err_and c.from_residual-in_err-look_at_tree.result c.from_residual-in_err-look_at_tree.ensures.1 in
    let same = ap (λ t. length t) c.new-cursor.ensures.rest in
    λ id tree spells. rw (p.1, p.2) (ends_in_tree _ _ _ _ _ _ _ _ _ (c.skip.ensures.rest ∙ ap (λ t. drop 1 t) c.new-cursor.ensures.rest) (omega (arith, same)) c.in_ok-look_at_id.ensures.exact
    c.skip-2.ensures.rest (omega (arith, c.in_ok-look_at_id.ensures.end, same)) c.in_err-look_at_tree.ensures.exact id tree spells)

pub returns : goal.returns
returns c =
    let same = ap (λ t. length t) c.new-cursor.ensures.rest in
    looked _ _ _ _ _ _ _ c.in_ok-look_at_tree.field-0 _ _ _ _ (c.skip.ensures.rest ∙ ap (λ t. drop 1 t) c.new-cursor.ensures.rest) (omega (arith, same)) (c.skip.ensures.uneven ∙ c.new-cursor.ensures.uneven) c.skip-2.ensures.uneven c.in_ok-look_at_id.ensures.exact
    c.skip-2.ensures.rest (omega (arith, c.in_ok-look_at_id.ensures.end, same)) c.in_ok-look_at_tree.ensures.exact
