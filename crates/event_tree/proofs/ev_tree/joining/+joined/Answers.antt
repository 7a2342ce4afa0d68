use Rattle.std.proofs.Common.{◌≡◌, ◌||◌, true, refl, sym, ◌∙◌, arith}
use Rattle.std.proofs.lemmas.Bool.{false≢true}
use Rattle.event_tree.specs.Joins.{gives_second, gives_first}
use Rattle.event_tree.proofs.Joined.{maximum-joined-le, joined-sides}
use Rattle.event_tree.proofs.Lifts.{given-is, lifted_nodes}
use Rattle.event_tree.proofs.Walk.{below_from_ranges}
use Rattle.event_tree.proofs.ev_tree.joining.+joined.Goals.{joined-then-below-via-then-below, joined-then-below-via-else-below+then-above}
use Rattle.event_tree.proofs.ev_tree.joining.+joined.Goals as goal

pub joined-returns-then-below : goal.joined-returns-then-below
joined-returns-then-below t c =
    let below = rw (c.range-here.ensures, c.range-there.ensures) at c.is_below-below.ensures.0 in
    let above = rw (c.range-here.ensures, c.range-there.ensures) at c.is_below-above.ensures.0 in
    let given : (gives_second c.of.result || gives_first c.of.result) ≡ true =
    rw (c.of.ensures.second, c.of.ensures.first)
    (elim c.then-below.branch [
      | joined-then-below-via-then-below w ↦ rw w.if-below.true refl
      | joined-then-below-via-else-below+then-above w ↦ rw (w.if-below.false, w.if-above.true) refl
    ]) in
    record {
      exact = given-is c.of.result c.args.made.now c.args.one_lift c.args.one.now c.args.other_lift c.args.other.now given;
      second = λ is. below_from_ranges c.args.one_lift c.args.other_lift c.args.one.now c.args.other.now (below (sym c.of.ensures.second ∙ is));
      first = λ is. below_from_ranges c.args.other_lift c.args.one_lift c.args.other.now c.args.one.now (above (sym c.of.ensures.first ∙ is));
    }

pub joined-returns-in-Fork-Fork : goal.joined-returns-in-Fork-Fork
joined-returns-in-Fork-Fork t c =
    rw (← c.one.view_is, ← c.other.view_is, c.in-Fork-Fork.is-0, c.in-Fork-Fork.is-1)
    (lifted_nodes c.joined_below.new.made c.args.one_lift c.in-Fork-Fork.base c.args.other_lift c.in-Fork-Fork.other_base _ _ _ _ _ (rw (c.deref.ensures, c.deref-in-Fork-Fork.ensures) at c.joined_below.ensures))

pub joined_below-fork_with-requires : goal.joined_below-fork_with-requires
joined_below-fork_with-requires t c =
    rw (c.in_ok-settle.ensures, c.in_ok-settle-2.ensures) (omega (arith, c.requires.one_fits, c.requires.other_fits, maximum-joined-le))

pub joined_below-returns : goal.joined_below-returns
joined_below-returns t c = record {
  exact =
      rw (c.in_ok-fork_with.ensures.exact, c.in_ok-settle.ensures, c.in_ok-settle-2.ensures)
      (joined-sides c.args.root c.args.other_root c.args.one.now.left c.args.one.now.right c.args.other.now.left c.args.other.now.right);
  second = λ given. absurd (false≢true given);
  first = λ given. absurd (false≢true given);
}
