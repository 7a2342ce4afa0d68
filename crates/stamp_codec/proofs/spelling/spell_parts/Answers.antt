use Rattle.std.proofs.Common.{codes, ◌++◌}
use Rattle.stamp_codec.specs.StampText.{id_text, tree_text}
use Rattle.stamp_codec.proofs.Spelled.{on_none, on_either, stamp_by_parts}
use Rattle.stamp_codec.proofs.spelling.spell_parts.Goals as goal

pub returns-in_err-take_one : goal.returns-in_err-take_one
returns-in_err-take_one g c = on_none c.from_residual.result _ _ c.from_residual.ensures (g.met.T.TakeBytes.refuses_front _ _ (codes "[") _ c.in_err-take_one.ensures)

pub returns-in_err-spell_id : goal.returns-in_err-spell_id
returns-in_err-spell_id g c =
    let laws = g.met.T.TakeBytes in
    let id = id_text c.args.id.now ++ codes ";" in
    let tree = tree_text c.args.tree.now ++ codes "]" in
    on_none c.from_residual-in_err-spell_id.result _ _ c.from_residual-in_err-spell_id.ensures (rw (← stamp_by_parts (id_text c.args.id.now) (tree_text c.args.tree.now))
    (laws.refuses_others _ _ _ (codes "[") (id ++ tree) c.in_ok-take_one.ensures (laws.refuses_front _ _ id tree c.in_err-spell_id.ensures)))

pub returns : goal.returns
returns g c =
    let laws = g.met.T.TakeBytes in
    let id = id_text c.args.id.now ++ codes ";" in
    let tree = tree_text c.args.tree.now ++ codes "]" in
    let parts = stamp_by_parts (id_text c.args.id.now) (tree_text c.args.tree.now) in
    on_either c.spell_tree.result _ _ _ _
    (λ refused. rw (← parts) (laws.refuses_others _ _ _ (codes "[") (id ++ tree) c.in_ok-take_one.ensures (laws.refuses_others _ _ _ id tree c.in_ok-spell_id.ensures refused)))
    (λ _ taken. rw (← parts) (laws.takes_both _ _ _ (codes "[") (id ++ tree) c.in_ok-take_one.ensures (laws.takes_both _ _ _ id tree c.in_ok-spell_id.ensures taken))) c.spell_tree.ensures
