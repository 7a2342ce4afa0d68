use Rattle.std.proofs.Common.{◌≡◌, false, true, [], ◌∷◌, ◌++◌, subst}
use Rattle.std.proofs.lemmas.Result.{err_from_is_err_and}
use Rattle.stamp_codec.specs.Flat.{OpensNowhere}
use Rattle.stamp_codec.specs.StampText.{id_text}
use Rattle.stamp_codec.specs.Beside.{tree_beside}
use Rattle.stamp_codec.proofs.Flats.{nowhere_behind}
use Rattle.stamp_codec.proofs.Refusals.{nothing_so_deep, nothing_without_tree, nothing_with_more}
use Rattle.stamp_codec.proofs.one_pass.stamp_at_once.Goals as goal

pub returns-then-is_too_deep-clause-refused : goal.returns-then-is_too_deep-clause-refused
returns-then-is_too_deep-clause-refused c = λ is. nothing_so_deep c.args.text.now (λ id tree spells. (c.is_too_deep.ensures id tree spells).0 c.if-is_too_deep.true)

pub returns-in_err-id-clause-flat : goal.returns-in_err-id-clause-flat
returns-in_err-id-clause-flat c = λ opens.
    let p = err_from_is_err_and c.from_residual-in_err-id.result c.from_residual-in_err-id.ensures.1 in
    rw (p.1, p.2) (c.in_err-id.ensures.flat (nowhere_behind (91 ∷ []) c.take_byte.new.rest.now (subst OpensNowhere c.in_ok-take_byte.ensures.text opens)))

pub returns-in_err-read-clause-refused : goal.returns-in_err-read-clause-refused
returns-in_err-read-clause-refused c =
    let p = err_from_is_err_and c.from_residual-in_err-read.result c.from_residual-in_err-read.ensures.1 in
    rw (p.1, p.2) (λ is. nothing_without_tree c.args.text.now c.take_byte.new.rest.now c.take_id.new.rest.now c.in_ok-id.id c.in_ok-take_byte.ensures.text c.in_ok-id.ensures.text (c.in_err-read.ensures.refused is))

pub returns-in_err-read-clause-flat : goal.returns-in_err-read-clause-flat
returns-in_err-read-clause-flat c = λ opens.
    let p = err_from_is_err_and c.from_residual-in_err-read.result c.from_residual-in_err-read.ensures.1 in
    let inner = nowhere_behind (91 ∷ []) c.take_byte.new.rest.now (subst OpensNowhere c.in_ok-take_byte.ensures.text opens) in
    rw (p.1, p.2) (c.in_err-read.ensures.flat (nowhere_behind (id_text c.in_ok-id.id ++ 59 ∷ []) c.take_id.new.rest.now (subst OpensNowhere c.in_ok-id.ensures.text inner)))

pub returns-in_err-settle-clause-flat : goal.returns-in_err-settle-clause-flat
returns-in_err-settle-clause-flat c = λ opens.
    let inner = nowhere_behind (91 ∷ []) c.take_byte.new.rest.now (subst OpensNowhere c.in_ok-take_byte.ensures.text opens) in
    let clash : false ≡ true = c.in_err-settle.ensures.leaf (c.in_ok-read.ensures.flat (nowhere_behind (id_text c.in_ok-id.id ++ 59 ∷ []) c.take_id.new.rest.now (subst OpensNowhere c.in_ok-id.ensures.text inner))) in
    cc

pub returns-else-is_empty-clause-refused : goal.returns-else-is_empty-clause-refused
returns-else-is_empty-clause-refused c = λ is. nothing_with_more c.args.text.now c.take_byte.new.rest.now c.take_id.new.rest.now c.take_beside.new.rest.now c.in_ok-id.id (tree_beside c.in_ok-read.read c.args.tree.now c.take_beside.new.made)
    c.in_ok-take_byte.ensures.text c.in_ok-id.ensures.text c.in_ok-read.ensures.text c.in_ok-read.ensures.small (λ none. let clash : false ≡ true = rw none at c.if-is_empty.ensures in cc)
