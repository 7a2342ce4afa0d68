use Rattle.std.proofs.Common.{◌∙◌, inr, sym, ap, arith}
use Rattle.std.proofs.lemmas.Grind.{common_steps}
use Rattle.event_tree.specs.Kept.{tree_of_node}
use Rattle.event_tree.proofs.Walk.{not_below_by_left, below_by_right, below_flat}
use Rattle.event_tree.proofs.ev_tree.comparison.+compare.Goals as goal

pub returns-in-true-true-clause-below : goal.returns-in-true-true-clause-below
returns-in-true-true-clause-below t c =
    let left = rw (c.deref.ensures, c.deref-in-Fork-Fork.ensures) at c.compare-on_left.ensures.below in
    let right = rw (c.deref-in-Fork-Fork-2.ensures, c.deref-in-Fork-Fork-3.ensures) at c.compare.ensures.below in
    below_by_right c.args.one_lift c.args.other_lift c.args.one.now c.args.other.now (record { one = sym c.one.view_is ∙ ap tree_of_node c.in-Fork-Fork.is-0; other = sym c.other.view_is ∙ ap tree_of_node c.in-Fork-Fork.is-1 }) _ _ left c.in-true-true.is-0 right

pub returns-in-true-true-clause-above : goal.returns-in-true-true-clause-above
returns-in-true-true-clause-above t c =
    let left = rw (c.deref.ensures, c.deref-in-Fork-Fork.ensures) at c.compare-on_left.ensures.above in
    let right = rw (c.deref-in-Fork-Fork-2.ensures, c.deref-in-Fork-Fork-3.ensures) at c.compare.ensures.above in
    below_by_right c.args.other_lift c.args.one_lift c.args.other.now c.args.one.now (record { one = sym c.other.view_is ∙ ap tree_of_node c.in-Fork-Fork.is-1; other = sym c.one.view_is ∙ ap tree_of_node c.in-Fork-Fork.is-0 }) _ _ left c.in-true-true.is-1 right

pub returns-in-true-false-clause-below : goal.returns-in-true-false-clause-below
returns-in-true-false-clause-below t c =
    let left = rw (c.deref.ensures, c.deref-in-Fork-Fork.ensures) at c.compare-on_left.ensures.below in
    let right = rw (c.deref-in-Fork-Fork-2.ensures, c.deref-in-Fork-Fork-3.ensures) at c.is_below-in-true-false.ensures in
    below_by_right c.args.one_lift c.args.other_lift c.args.one.now c.args.other.now (record { one = sym c.one.view_is ∙ ap tree_of_node c.in-Fork-Fork.is-0; other = sym c.other.view_is ∙ ap tree_of_node c.in-Fork-Fork.is-1 }) _ _ left c.in-true-false.is-0 right

pub returns-in-true-false-clause-above : goal.returns-in-true-false-clause-above
returns-in-true-false-clause-above t c =
    let left = rw (c.deref.ensures, c.deref-in-Fork-Fork.ensures) at c.compare-on_left.ensures.above in
    let stands = not_below_by_left c.args.other_lift c.args.one_lift c.args.other.now c.args.one.now (record { one = sym c.other.view_is ∙ ap tree_of_node c.in-Fork-Fork.is-1; other = sym c.one.view_is ∙ ap tree_of_node c.in-Fork-Fork.is-0 }) _ left c.in-true-false.is-1 in
    rw c.in-true-false.is-1 at stands

pub returns-in-false-true-clause-below : goal.returns-in-false-true-clause-below
returns-in-false-true-clause-below t c =
    let left = rw (c.deref.ensures, c.deref-in-Fork-Fork.ensures) at c.compare-on_left.ensures.below in
    let stands = not_below_by_left c.args.one_lift c.args.other_lift c.args.one.now c.args.other.now (record { one = sym c.one.view_is ∙ ap tree_of_node c.in-Fork-Fork.is-0; other = sym c.other.view_is ∙ ap tree_of_node c.in-Fork-Fork.is-1 }) _ left c.in-false-true.is-0 in
    rw c.in-false-true.is-0 at stands

pub returns-in-false-true-clause-above : goal.returns-in-false-true-clause-above
returns-in-false-true-clause-above t c =
    let left = rw (c.deref.ensures, c.deref-in-Fork-Fork.ensures) at c.compare-on_left.ensures.above in
    let right = rw (c.deref-in-Fork-Fork-2.ensures, c.deref-in-Fork-Fork-3.ensures) at c.is_below-in-false-true.ensures in
    below_by_right c.args.other_lift c.args.one_lift c.args.other.now c.args.one.now (record { one = sym c.other.view_is ∙ ap tree_of_node c.in-Fork-Fork.is-1; other = sym c.one.view_is ∙ ap tree_of_node c.in-Fork-Fork.is-0 }) _ _ left c.in-false-true.is-1 right

pub returns-in-false-false-clause-below : goal.returns-in-false-false-clause-below
returns-in-false-false-clause-below t c =
    let left = rw (c.deref.ensures, c.deref-in-Fork-Fork.ensures) at c.compare-on_left.ensures.below in
    let stands = not_below_by_left c.args.one_lift c.args.other_lift c.args.one.now c.args.other.now (record { one = sym c.one.view_is ∙ ap tree_of_node c.in-Fork-Fork.is-0; other = sym c.other.view_is ∙ ap tree_of_node c.in-Fork-Fork.is-1 }) _ left c.in-false-false.is-0 in
    stands

pub returns-in-false-false-clause-above : goal.returns-in-false-false-clause-above
returns-in-false-false-clause-above t c =
    let left = rw (c.deref.ensures, c.deref-in-Fork-Fork.ensures) at c.compare-on_left.ensures.above in
    let stands = not_below_by_left c.args.other_lift c.args.one_lift c.args.other.now c.args.one.now (record { one = sym c.other.view_is ∙ ap tree_of_node c.in-Fork-Fork.is-1; other = sym c.one.view_is ∙ ap tree_of_node c.in-Fork-Fork.is-0 }) _ left c.in-false-false.is-1 in
    stands

pub returns-in_default-clause-below : goal.returns-in_default-clause-below
returns-in_default-clause-below t c =
    let same = rw (c.range.ensures, c.range-2.ensures) at (c.is_same.ensures.0 (grind (arith, common_steps))) in
    let below = below_flat c.args.one_lift c.args.other_lift c.args.one.now c.args.other.now same (inr (rw (← c.other.view_is, c.in_default.is-1) (omega arith))) in
    (λ is. below, λ holds. grind arith)

pub returns-in_default-2-clause-above : goal.returns-in_default-2-clause-above
returns-in_default-2-clause-above t c =
    let same = rw (c.range.ensures, c.range-2.ensures) at (c.is_same.ensures.0 (grind (arith, common_steps))) in
    let above = below_flat c.args.other_lift c.args.one_lift c.args.other.now c.args.one.now (sym same) (inr (rw (← c.one.view_is, c.in_default.is-0) (omega arith))) in
    (λ is. above, λ holds. grind arith)
