use Rattle.std.proofs.Common.{IsTrue, inl, inr, refl}
use Rattle.event_tree.specs.Joins.{gives_first}
use Rattle.event_tree.proofs.Joined.{joined-first, joined-second}
use Rattle.event_tree.proofs.ev_tree.joining.Join.put.Goals as goal

pub returns-in_ok-made-in-Second : goal.returns-in_ok-made-in-Second
returns-in_ok-made-in-Second c =
    let second = rw c.in-Second.is at c.requires.join.second in
    rw (joined-second c.args.one_lift c.args.one.now c.args.other_lift c.args.other.now c.lifted.ensures.normal (second refl)) c.in_ok-made-in-Second.ensures.exact

pub returns-in_ok-made-in-First : goal.returns-in_ok-made-in-First
returns-in_ok-made-in-First c =
    let given : IsTrue (gives_first c.args.self) = elim c.in-First.is [ inl is ↦ rw is refl | inr is ↦ rw is refl ] in
    let below = c.requires.join.first given in
    rw (joined-first c.args.one_lift c.args.one.now c.args.other_lift c.args.other.now c.lifted-in-First.ensures.normal below) c.in_ok-made-in-First.ensures.exact
