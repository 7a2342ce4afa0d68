use Rattle.std.proofs.Common.{arith, ◌∙◌}
use Rattle.std.proofs.lemmas.Result.{err_from_is_err_and}
use Rattle.stamp_codec.proofs.LookIds.{InPair, looks_leaf, deep_here, ends_left, ends_right, looks_pair}
use Rattle.stamp_codec.proofs.first_fault.+look_at_id.Goals as goal

pub returns-then-first-ne40-clause-exact : goal.returns-then-first-ne40-clause-exact
returns-then-first-ne40-clause-exact t c = looks_leaf _ _ _ _ _ _ (omega arith) c.skip.ensures.rest c.skip.ensures.uneven

pub returns-then-nested-eq-MOST_NESTED-clause-exact : goal.returns-then-nested-eq-MOST_NESTED-clause-exact
returns-then-nested-eq-MOST_NESTED-clause-exact t c = deep_here c.args.cursor.now.rest.now c.args.cursor.now.place c.args.nested (omega arith) (omega arith) c.if-nested-eq-MOST_NESTED.true

pub returns-in_err-look_at_id-clause-exact : goal.returns-in_err-look_at_id-clause-exact
returns-in_err-look_at_id-clause-exact t c =
    let known : InPair c.args.cursor.now.rest.now c.skip.new.self.rest.now c.args.cursor.now.place c.skip.new.self.place c.args.nested = record { not_zero = omega arith; not_one = omega arith; room = c.if-nested-eq-MOST_NESTED.false; inner_is = c.skip.ensures.rest; end = c.skip.ensures.end } in
    let p = err_from_is_err_and c.from_residual.result c.from_residual.ensures.1 in
    λ id rest whole. rw (p.1, p.2) (ends_left _ _ _ _ _ _ known c.in_err-look_at_id.ensures.exact id rest whole)

pub returns-in_err-look_at_id-2-clause-exact : goal.returns-in_err-look_at_id-2-clause-exact
returns-in_err-look_at_id-2-clause-exact t c =
    let known : InPair c.args.cursor.now.rest.now c.skip.new.self.rest.now c.args.cursor.now.place c.skip.new.self.place c.args.nested = record { not_zero = omega arith; not_one = omega arith; room = c.if-nested-eq-MOST_NESTED.false; inner_is = c.skip.ensures.rest; end = c.skip.ensures.end } in
    let p = err_from_is_err_and c.from_residual-in_err-look_at_id-2.result c.from_residual-in_err-look_at_id-2.ensures.1 in
    λ id rest whole. rw (p.1, p.2) (ends_right _ _ _ _ _ _ _ _ _ _ _ known c.in_ok-look_at_id.ensures.exact c.skip-2.ensures.rest (omega (arith, c.in_ok-look_at_id.ensures.end)) c.in_err-look_at_id-2.ensures.exact id rest whole)

pub returns-clause-exact : goal.returns-clause-exact
returns-clause-exact t c =
    let known : InPair c.args.cursor.now.rest.now c.skip.new.self.rest.now c.args.cursor.now.place c.skip.new.self.place c.args.nested = record { not_zero = omega arith; not_one = omega arith; room = c.if-nested-eq-MOST_NESTED.false; inner_is = c.skip.ensures.rest; end = c.skip.ensures.end } in
    looks_pair _ _ _ _ _ _ _ _ _ _ _ _ _ _ _ _ _ _ _ _ known c.skip.ensures.uneven c.skip-2.ensures.uneven c.skip-3.ensures.uneven c.in_ok-look_at_id.ensures.exact c.skip-2.ensures.rest (omega (arith, c.in_ok-look_at_id.ensures.end)) c.in_ok-look_at_id-2.ensures.exact
    (c.note.ensures.rest ∙ c.skip-3.ensures.rest) c.first-left_first.ensures c.first-right_first.ensures c.is_same_leaf.ensures c.note.ensures.uneven
