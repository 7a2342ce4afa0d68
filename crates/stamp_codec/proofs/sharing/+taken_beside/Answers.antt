use Rattle.std.proofs.Common.{arith}
use Rattle.std.proofs.lemmas.Result.{err_from_is_err_and}
use Rattle.stamp_codec.specs.Beside.{tree_beside}
use Rattle.stamp_codec.proofs.Flats.{nowhere_first}
use Rattle.stamp_codec.proofs.Refusals.{node_too_deep, node_without_number, node_without_left, node_without_right, node_uneven, refused_anyway, tree_without_end, tree_without_number}
use Rattle.stamp_codec.proofs.sharing.+taken_beside.Goals as goal

pub take_beside-returns-in_err-take_number-clause-refused : goal.take_beside-returns-in_err-take_number-clause-refused
take_beside-returns-in_err-take_number-clause-refused t c =
    refused_anyway c.from_residual.result (tree_without_number c.args.levels c.args.most c.args.end c.args.rest.now.now c.take_parenthesis.new.rest.now c.if-not-take_parenthesis.ensures c.in_err-take_number.ensures.refused.1)

pub take_beside-returns-in_err-take_byte-clause-refused : goal.take_beside-returns-in_err-take_byte-clause-refused
take_beside-returns-in_err-take_byte-clause-refused t c =
    let read = tree_beside c.in_ok-read.read c.args.tree.now c.take_node_beside.new.made in
    refused_anyway c.from_residual-in_err-take_byte.result
    (tree_without_end c.args.levels c.args.most c.args.end c.args.rest.now.now c.take_parenthesis.new.rest.now c.take_node_beside.new.rest.now read
    c.requires.most c.in_ok-read.ensures.small c.in_ok-read.ensures.text c.if-not-take_parenthesis.ensures c.in_err-take_byte.ensures.refused.1)

pub take_node_beside-returns-then-levels-eq0-clause-refused : goal.take_node_beside-returns-then-levels-eq0-clause-refused
take_node_beside-returns-then-levels-eq0-clause-refused t c = λ is. rw c.if-levels-eq0.true (node_too_deep c.args.most c.args.rest.now.now c.requires)

pub take_node_beside-returns-in_err-number-clause-refused : goal.take_node_beside-returns-in_err-number-clause-refused
take_node_beside-returns-in_err-number-clause-refused t c =
    let p = err_from_is_err_and c.from_residual.result c.from_residual.ensures.1 in
    rw (p.1, p.2) (λ is. node_without_number c.args.levels c.args.most c.args.rest.now.now c.requires c.in_err-number.ensures.refused.1)

pub take_node_beside-returns-in_err-on_left-clause-refused : goal.take_node_beside-returns-in_err-on_left-clause-refused
take_node_beside-returns-in_err-on_left-clause-refused t c =
    let p = err_from_is_err_and c.from_residual-in_err-on_left.result c.from_residual-in_err-on_left.ensures.1 in
    rw (p.1, p.2) (λ is. node_without_left c.args.levels c.args.most c.in_ok-number.number c.args.rest.now.now c.take_number.new.rest.now c.requires c.if-levels-eq0.false c.in_ok-number.ensures.small c.in_ok-number.ensures.text (c.in_err-on_left.ensures.refused is))

pub take_node_beside-returns-in_err-on_right-clause-refused : goal.take_node_beside-returns-in_err-on_right-clause-refused
take_node_beside-returns-in_err-on_right-clause-refused t c =
    let p = err_from_is_err_and c.from_residual-in_err-on_right.result c.from_residual-in_err-on_right.ensures.1 in
    let left = tree_beside c.in_ok-on_left.on_left c.in-Node.left.now c.take_beside.new.made in
    rw (p.1, p.2) (λ is. node_without_right c.args.levels c.args.most c.in_ok-number.number c.args.rest.now.now c.take_number.new.rest.now c.take_beside.new.rest.now left c.requires c.if-levels-eq0.false c.in_ok-number.ensures.small
    c.in_ok-number.ensures.text (omega (arith, c.in_ok-on_left.ensures.small)) c.in_ok-on_left.ensures.text (c.in_err-on_right.ensures.refused is))

pub take_node_beside-returns-in_err-put_node-clause-refused : goal.take_node_beside-returns-in_err-put_node-clause-refused
take_node_beside-returns-in_err-put_node-clause-refused t c =
    let p = err_from_is_err_and c.from_residual-in_err-put_node.result c.from_residual-in_err-put_node.ensures.1 in
    let left = tree_beside c.in_ok-on_left.on_left c.in-Node.left.now c.take_beside.new.made in
    let right = tree_beside c.in_ok-on_right.on_right c.in-Node.right.now c.take_beside-2.new.made in
    rw (p.1, p.2) (λ is. node_uneven c.args.levels c.args.most c.in_ok-number.number c.args.rest.now.now c.take_number.new.rest.now c.take_beside.new.rest.now c.take_beside-2.new.rest.now left right c.requires
    (omega (arith, c.in_ok-number.ensures.small, c.in_ok-on_left.ensures.small, c.in_ok-on_right.ensures.small)) c.in_ok-number.ensures.text c.in_ok-on_left.ensures.text c.in_ok-on_right.ensures.text
    (rw (c.in_ok-settle.ensures.settled, c.in_ok-settle-2.ensures.settled) at (c.in_err-put_node.ensures.refused is)))

pub take_beside-returns-in_err-read-clause-flat : goal.take_beside-returns-in_err-read-clause-flat
take_beside-returns-in_err-read-clause-flat t c opens = absurd (nowhere_first c.args.rest.now.now c.take_parenthesis.new.rest.now opens c.if-not-take_parenthesis.ensures)

pub take_beside-returns-clause-flat : goal.take_beside-returns-clause-flat
take_beside-returns-clause-flat t c opens = absurd (nowhere_first c.args.rest.now.now c.take_parenthesis.new.rest.now opens c.if-not-take_parenthesis.ensures)
