use Rattle.std.proofs.Common.{codes, decimal, ◌++◌}
use Rattle.stamp_codec.specs.StampText.{tree_text}
use Rattle.stamp_codec.proofs.Spelled.{on_none, on_either, node_by_parts}
use Rattle.stamp_codec.proofs.spelling.+spelled_trees.Goals as goal

pub spell_node-returns-in_err-take_one : goal.spell_node-returns-in_err-take_one
spell_node-returns-in_err-take_one g t c = on_none c.from_residual.result _ _ c.from_residual.ensures (g.met.T.TakeBytes.refuses_front _ _ (codes "(") _ c.in_err-take_one.ensures)

pub spell_node-returns-in_err-spell_number : goal.spell_node-returns-in_err-spell_number
spell_node-returns-in_err-spell_number g t c =
    let laws = g.met.T.TakeBytes in
    let number = decimal c.args.n ++ codes "," in
    let children = (tree_text c.args.left.now ++ codes ",") ++ (tree_text c.args.right.now ++ codes ")") in
    on_none c.from_residual-in_err-spell_number.result _ _ c.from_residual-in_err-spell_number.ensures (rw (← node_by_parts (decimal c.args.n) (tree_text c.args.left.now) (tree_text c.args.right.now))
    (laws.refuses_others _ _ _ (codes "(") (number ++ children) c.in_ok-take_one.ensures (laws.refuses_front _ _ number children c.in_err-spell_number.ensures)))

pub spell_node-returns-in_err-spell_tree : goal.spell_node-returns-in_err-spell_tree
spell_node-returns-in_err-spell_tree g t c =
    let laws = g.met.T.TakeBytes in
    let number = decimal c.args.n ++ codes "," in
    let left = tree_text c.args.left.now ++ codes "," in
    let right = tree_text c.args.right.now ++ codes ")" in
    on_none c.from_residual-in_err-spell_tree.result _ _ c.from_residual-in_err-spell_tree.ensures (rw (← node_by_parts (decimal c.args.n) (tree_text c.args.left.now) (tree_text c.args.right.now))
    (laws.refuses_others _ _ _ (codes "(") (number ++ (left ++ right)) c.in_ok-take_one.ensures
    (laws.refuses_others _ _ _ number (left ++ right) c.in_ok-spell_number.ensures (laws.refuses_front _ _ left right c.in_err-spell_tree.ensures))))

pub spell_node-returns : goal.spell_node-returns
spell_node-returns g t c =
    let laws = g.met.T.TakeBytes in
    let number = decimal c.args.n ++ codes "," in
    let left = tree_text c.args.left.now ++ codes "," in
    let right = tree_text c.args.right.now ++ codes ")" in
    let parts = node_by_parts (decimal c.args.n) (tree_text c.args.left.now) (tree_text c.args.right.now) in
    on_either c.spell_tree-2.result _ _ _ _
    (λ refused. rw (← parts) (laws.refuses_others _ _ _ (codes "(") (number ++ (left ++ right)) c.in_ok-take_one.ensures
    (laws.refuses_others _ _ _ number (left ++ right) c.in_ok-spell_number.ensures (laws.refuses_others _ _ _ left right c.in_ok-spell_tree.ensures refused))))
    (λ _ taken. rw (← parts) (laws.takes_both _ _ _ (codes "(") (number ++ (left ++ right)) c.in_ok-take_one.ensures
    (laws.takes_both _ _ _ number (left ++ right) c.in_ok-spell_number.ensures (laws.takes_both _ _ _ left right c.in_ok-spell_tree.ensures taken)))) c.spell_tree-2.ensures
