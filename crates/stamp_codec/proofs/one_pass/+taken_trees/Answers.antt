use Rattle.std.proofs.Common.{arith}
use Rattle.std.proofs.lemmas.Result.{err_from_is_err_and, IfOk-weaker, IfErr-weaker}
use Rattle.stamp_codec.proofs.AtOnce.{twig_read}
use Rattle.stamp_codec.proofs.Refusals.{node_too_deep, node_without_number, node_without_left, node_without_right, node_uneven, node_not_within, refused_anyway, tree_without_end, tree_without_number}
use Rattle.stamp_codec.proofs.one_pass.+taken_trees.Goals as goal

pub take_node-returns-then-levels-eq0-clause-refused : goal.take_node-returns-then-levels-eq0-clause-refused
take_node-returns-then-levels-eq0-clause-refused t c = λ is. rw c.if-levels-eq0.true (node_too_deep c.args.most c.args.rest.now.now c.requires)

pub take_node-returns-in-Some-clause-text : goal.take_node-returns-in-Some-clause-text
take_node-returns-in-Some-clause-text t c =
    let digits = c.in-Some.ensures in
    IfOk-weaker c.twig_of.result _ _
    (λ tree is. rw is (twig_read c.args.rest.now.now c.take_twig.new.rest.now c.in-Some.number c.in-Some.left c.in-Some.right digits.text digits.number digits.left digits.right)) c.twig_of.ensures.exact

pub take_node-returns-in-Some-clause-refused : goal.take_node-returns-in-Some-clause-refused
take_node-returns-in-Some-clause-refused t c =
    let digits = c.in-Some.ensures in
    let read = twig_read c.args.rest.now.now c.take_twig.new.rest.now c.in-Some.number c.in-Some.left c.in-Some.right digits.text digits.number digits.left digits.right in
    IfErr-weaker c.twig_of.result _ _
    (λ unread not is. node_not_within c.args.levels c.args.most c.args.rest.now.now c.take_twig.new.rest.now _ c.requires (omega (arith, digits.number, digits.left, digits.right)) read (not is c.args.levels)) c.twig_of.ensures.refused

pub take_node-returns-in_err-number-clause-refused : goal.take_node-returns-in_err-number-clause-refused
take_node-returns-in_err-number-clause-refused t c =
    let p = err_from_is_err_and c.from_residual.result c.from_residual.ensures.1 in
    rw (p.1, p.2) (λ is. node_without_number c.args.levels c.args.most c.args.rest.now.now c.requires (rw c.in_default.ensures.text at c.in_err-number.ensures.refused.1))

pub take_node-returns-in_err-left-clause-refused : goal.take_node-returns-in_err-left-clause-refused
take_node-returns-in_err-left-clause-refused t c =
    let p = err_from_is_err_and c.from_residual-in_err-left.result c.from_residual-in_err-left.ensures.1 in
    rw (p.1, p.2) (λ is. node_without_left c.args.levels c.args.most c.in_ok-number.number c.args.rest.now.now c.take_number.new.rest.now c.requires c.if-levels-eq0.false c.in_ok-number.ensures.small (rw c.in_default.ensures.text at c.in_ok-number.ensures.text) (c.in_err-left.ensures.refused is))

pub take_node-returns-in_err-right-clause-refused : goal.take_node-returns-in_err-right-clause-refused
take_node-returns-in_err-right-clause-refused t c =
    let p = err_from_is_err_and c.from_residual-in_err-right.result c.from_residual-in_err-right.ensures.1 in
    rw (p.1, p.2) (λ is. node_without_right c.args.levels c.args.most c.in_ok-number.number c.args.rest.now.now c.take_number.new.rest.now c.take_tree.new.rest.now c.in_ok-left.left c.requires c.if-levels-eq0.false c.in_ok-number.ensures.small
    (rw c.in_default.ensures.text at c.in_ok-number.ensures.text) (omega (arith, c.in_ok-left.ensures.small)) c.in_ok-left.ensures.text (c.in_err-right.ensures.refused is))

pub take_node-returns-clause-refused : goal.take_node-returns-clause-refused
take_node-returns-clause-refused t c =
    IfErr-weaker c.node_of.result _ _ (λ unread uneven is. node_uneven c.args.levels c.args.most c.in_ok-number.number c.args.rest.now.now c.take_number.new.rest.now c.take_tree.new.rest.now c.take_tree-2.new.rest.now c.in_ok-left.left c.in_ok-right.right
    c.requires (omega (arith, c.in_ok-number.ensures.small, c.in_ok-left.ensures.small, c.in_ok-right.ensures.small)) (rw c.in_default.ensures.text at c.in_ok-number.ensures.text) c.in_ok-left.ensures.text c.in_ok-right.ensures.text (uneven is)) c.node_of.ensures.refused

pub take_tree-returns-in_err-take_number-clause-refused : goal.take_tree-returns-in_err-take_number-clause-refused
take_tree-returns-in_err-take_number-clause-refused t c =
    refused_anyway c.from_residual.result (tree_without_number c.args.levels c.args.most c.args.end c.args.rest.now.now c.take_parenthesis.new.rest.now c.if-not-take_parenthesis.ensures c.in_err-take_number.ensures.refused.1)

pub take_tree-returns-in_err-take_byte-clause-refused : goal.take_tree-returns-in_err-take_byte-clause-refused
take_tree-returns-in_err-take_byte-clause-refused t c =
    refused_anyway c.from_residual-in_err-take_byte.result
    (tree_without_end c.args.levels c.args.most c.args.end c.args.rest.now.now c.take_parenthesis.new.rest.now c.take_node.new.rest.now c.in_ok-tree.tree
    c.requires.most c.in_ok-tree.ensures.small c.in_ok-tree.ensures.text c.if-not-take_parenthesis.ensures c.in_err-take_byte.ensures.refused.1)
