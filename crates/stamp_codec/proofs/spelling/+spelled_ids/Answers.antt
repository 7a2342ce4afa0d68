use Rattle.std.proofs.Common.{codes, ◌++◌}
use Rattle.stamp_codec.specs.StampText.{id_text}
use Rattle.stamp_codec.proofs.Spelled.{on_none, on_either, pair_by_parts}
use Rattle.stamp_codec.proofs.spelling.+spelled_ids.Goals as goal

pub spell_pair-returns-in_err-take_one : goal.spell_pair-returns-in_err-take_one
spell_pair-returns-in_err-take_one g t c = on_none c.from_residual.result _ _ c.from_residual.ensures (g.met.T.TakeBytes.refuses_front _ _ (codes "(") _ c.in_err-take_one.ensures)

pub spell_pair-returns-in_err-spell_id : goal.spell_pair-returns-in_err-spell_id
spell_pair-returns-in_err-spell_id g t c =
    let laws = g.met.T.TakeBytes in
    let left = id_text c.args.left.now ++ codes "," in
    let right = id_text c.args.right.now ++ codes ")" in
    on_none c.from_residual-in_err-spell_id.result _ _ c.from_residual-in_err-spell_id.ensures (rw (← pair_by_parts (id_text c.args.left.now) (id_text c.args.right.now))
    (laws.refuses_others _ _ _ (codes "(") (left ++ right) c.in_ok-take_one.ensures (laws.refuses_front _ _ left right c.in_err-spell_id.ensures)))

pub spell_pair-returns : goal.spell_pair-returns
spell_pair-returns g t c =
    let laws = g.met.T.TakeBytes in
    let left = id_text c.args.left.now ++ codes "," in
    let right = id_text c.args.right.now ++ codes ")" in
    let parts = pair_by_parts (id_text c.args.left.now) (id_text c.args.right.now) in
    on_either c.spell_id-2.result _ _ _ _
    (λ refused. rw (← parts) (laws.refuses_others _ _ _ (codes "(") (left ++ right) c.in_ok-take_one.ensures (laws.refuses_others _ _ _ left right c.in_ok-spell_id.ensures refused)))
    (λ _ taken. rw (← parts) (laws.takes_both _ _ _ (codes "(") (left ++ right) c.in_ok-take_one.ensures (laws.takes_both _ _ _ left right c.in_ok-spell_id.ensures taken))) c.spell_id-2.ensures
