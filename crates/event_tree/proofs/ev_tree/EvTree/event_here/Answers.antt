use Rattle.std.proofs.Common.{sym, ◌∙◌, subst}
use Rattle.trace_types.specs.clock.EventTree.{EventTree}
use Rattle.event_tree.specs.Raised.{RisesSomewhere}
use Rattle.event_tree.proofs.Events.{event_by_fill, event_by_growth}
use Rattle.event_tree.proofs.ev_tree.EvTree.event_here.Goals as goal

pub returns-in_ok-made-in-Unfilled-clause-exact : goal.returns-in_ok-made-in-Unfilled-clause-exact
returns-in_ok-made-in-Unfilled-clause-exact c =
    let gives = rw c.in-Unfilled.is at c.in_ok-begun.ensures.gives in
    rw (event_by_growth c.args.id.now c.args.self.now (sym gives.exact)) c.in_ok-made-in-Unfilled.ensures.exact

pub returns-in-Filled-clause-exact : goal.returns-in-Filled-clause-exact
returns-in-Filled-clause-exact c =
    let gives = rw c.in-Filled.is at c.in_ok-begun.ensures.gives in
    let rises = subst (λ (tree : EventTree). RisesSomewhere c.args.self.now tree) gives.exact gives.rises in
    gives.exact ∙ sym (event_by_fill c.args.id.now c.args.self.now rises)
