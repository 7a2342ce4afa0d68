use Rattle.std.proofs.Common.{arith, ◌∙◌}
use Rattle.std.proofs.lemmas.Result.{err_from_is_err_and}
use Rattle.stamp_codec.proofs.LookTrees.{InFork, large_number, looks_number, large_here, large_head, ends_left, ends_right, looks_fork}
use Rattle.stamp_codec.proofs.first_fault.+look_at_tree.Goals as goal

pub returns-then-nested-eq-MOST_NESTED-clause-exact : goal.returns-then-nested-eq-MOST_NESTED-clause-exact
returns-then-nested-eq-MOST_NESTED-clause-exact t c = large_here c.args.cursor.now.rest.now c.args.end c.args.cursor.now.place c.args.nested c.args.sum (omega arith) c.if-nested-eq-MOST_NESTED.true

pub returns-in_err-number-clause-exact : goal.returns-in_err-number-clause-exact
returns-in_err-number-clause-exact t c =
    let p = err_from_is_err_and c.from_residual.result c.from_residual.ensures.1 in
    λ tree rest begins. rw (p.1, p.2) (large_number _ c.number.new.self.rest.now c.args.end c.args.cursor.now.place c.args.nested c.args.sum _ (omega arith) c.requires.sum_within c.in_err-number.ensures.exact tree rest begins)

pub returns-then-first-ne40-clause-exact : goal.returns-then-first-ne40-clause-exact
returns-then-first-ne40-clause-exact t c =
    looks_number _ c.number.new.self.rest.now c.args.end c.args.cursor.now.place c.args.nested c.args.sum c.in_ok-number.field-0 _ _ _ (omega arith) c.requires.sum_within c.in_ok-number.ensures.exact c.in_ok-number.ensures.small c.number.ensures.uneven c.number-then-first-ne40.ensures

pub returns-in_err-number-2-clause-exact : goal.returns-in_err-number-2-clause-exact
returns-in_err-number-2-clause-exact t c =
    let p = err_from_is_err_and c.from_residual-in_err-number-2.result c.from_residual-in_err-number-2.ensures.1 in
    λ tree rest begins. rw (p.1, p.2) (large_head _ _ c.number-2.new.self.rest.now c.args.end c.args.cursor.now.place _ c.args.nested c.args.sum _ (omega arith) c.if-nested-eq-MOST_NESTED.false c.requires.sum_within c.skip.ensures.rest c.skip.ensures.end c.in_err-number-2.ensures.exact tree rest begins)

pub returns-in_err-left-clause-exact : goal.returns-in_err-left-clause-exact
returns-in_err-left-clause-exact t c =
    let known : InFork c.args.cursor.now.rest.now c.skip.new.self.rest.now c.number-2.new.self.rest.now c.args.cursor.now.place c.skip.new.self.place c.number-2.new.self.place c.args.nested c.args.sum c.in_ok-number-2.number = record { opens = omega arith; room = c.if-nested-eq-MOST_NESTED.false; within = omega (arith, c.in_ok-number-2.ensures.small); inner_is = c.skip.ensures.rest; reads = c.in_ok-number-2.ensures.exact; end = omega (arith, c.in_ok-number-2.ensures.end, c.skip.ensures.end) } in
    let p = err_from_is_err_and c.from_residual-in_err-left.result c.from_residual-in_err-left.ensures.1 in
    λ tree rest begins. rw (p.1, p.2) (ends_left _ _ _ c.args.end _ _ _ _ _ _ _ known c.in_err-left.ensures.exact tree rest begins)

pub returns-in_err-right-clause-exact : goal.returns-in_err-right-clause-exact
returns-in_err-right-clause-exact t c =
    let known : InFork c.args.cursor.now.rest.now c.skip.new.self.rest.now c.number-2.new.self.rest.now c.args.cursor.now.place c.skip.new.self.place c.number-2.new.self.place c.args.nested c.args.sum c.in_ok-number-2.number = record { opens = omega arith; room = c.if-nested-eq-MOST_NESTED.false; within = omega (arith, c.in_ok-number-2.ensures.small); inner_is = c.skip.ensures.rest; reads = c.in_ok-number-2.ensures.exact; end = omega (arith, c.in_ok-number-2.ensures.end, c.skip.ensures.end) } in
    let p = err_from_is_err_and c.from_residual-in_err-right.result c.from_residual-in_err-right.ensures.1 in
    λ tree rest begins. rw (p.1, p.2) (ends_right _ _ _ _ c.args.end _ _ _ _ _ _ _ _ c.in_ok-left.left _ _ known c.in_ok-left.ensures.exact c.in_ok-left.ensures.end c.in_err-right.ensures.exact tree rest begins)

pub returns-clause-exact : goal.returns-clause-exact
returns-clause-exact t c =
    let known : InFork c.args.cursor.now.rest.now c.skip.new.self.rest.now c.number-2.new.self.rest.now c.args.cursor.now.place c.skip.new.self.place c.number-2.new.self.place c.args.nested c.args.sum c.in_ok-number-2.number = record { opens = omega arith; room = c.if-nested-eq-MOST_NESTED.false; within = omega (arith, c.in_ok-number-2.ensures.small); inner_is = c.skip.ensures.rest; reads = c.in_ok-number-2.ensures.exact; end = omega (arith, c.in_ok-number-2.ensures.end, c.skip.ensures.end) } in
    looks_fork _ _ _ _ _ _ c.args.end _ _ _ _ _ _ _ c.in_ok-left.left c.in_ok-right.right _ _ _ _ _ _ _ _ known (c.number-2.ensures.uneven ∙ c.skip.ensures.uneven) c.skip-2.ensures.uneven c.in_ok-left.ensures.exact c.in_ok-left.ensures.end c.in_ok-right.ensures.exact
    (c.note.ensures.rest ∙ c.skip-2.ensures.rest) c.is_uneven_beside.ensures c.note.ensures.uneven c.of_node.ensures.least c.of_node.ensures.number
