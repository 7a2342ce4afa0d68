use Rattle.std.proofs.Common.{refl, sym, ap, ◌∙◌, arith}
use Rattle.std.proofs.lemmas.Bool.{false≢true}
use Rattle.std.proofs.lemmas.Grind.{common_steps}
use Rattle.std.proofs.lemmas.Option.{IfSome_then}
use Rattle.event_tree.specs.Kept.{tree_of_node}
use Rattle.event_tree.proofs.Walk.{AreNodes, ranges_from_below, below_from_ranges, below_by_sides}
use Rattle.event_tree.proofs.ev_tree.comparison.+is_below_within.Goals as goal

pub is_below_within-returns-then-is_below-clause-is : goal.is_below_within-returns-then-is_below-clause-is
is_below_within-returns-then-is_below-clause-is t c =
    let apart = rw (c.range-span.ensures, c.range-other_span.ensures) at (c.is_below.ensures.0 c.if-is_below.true) in
    (λ is. below_from_ranges c.args.one_lift c.args.other_lift c.args.one.now c.args.other.now apart, λ below. refl)

pub is_below_within-returns-then-not-can_be_below-clause-is : goal.is_below_within-returns-then-not-can_be_below-clause-is
is_below_within-returns-then-not-can_be_below-clause-is t c =
    let possible = rw (c.range-span.ensures, c.range-other_span.ensures) at c.can_be_below.ensures.1 in (
      λ never. absurd (false≢true never),
      λ below. let is = possible (ranges_from_below c.args.one_lift c.args.other_lift c.args.one.now c.args.other.now below) in grind (arith, common_steps),
    )

pub is_below_within-returns-clause-is : goal.is_below_within-returns-clause-is
is_below_within-returns-clause-is t c =
    let nodes : AreNodes c.args.one.now c.args.other.now c.in-Fork-Fork.base c.in-Fork-Fork.other_base c.in-Fork-Fork.children.value.left c.in-Fork-Fork.children.value.right c.in-Fork-Fork.other_children.value.left c.in-Fork-Fork.other_children.value.right =
    record {
      one = sym c.one.view_is ∙ ap tree_of_node c.in-Fork-Fork.is-0;
      other = sym c.other.view_is ∙ ap tree_of_node c.in-Fork-Fork.is-1;
    } in
    IfSome_then c.are_below_within.result (rw (c.deref.ensures, c.deref-in-Fork-Fork.ensures) at c.are_below_within.ensures.is)
    (λ held sides. below_by_sides c.args.one_lift c.args.other_lift c.args.one.now c.args.other.now nodes held sides)
