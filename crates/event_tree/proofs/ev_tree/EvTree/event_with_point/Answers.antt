use Rattle.event_tree.proofs.Events.{raises_event}
use Rattle.event_tree.proofs.Narrow.{raised_where}
use Rattle.event_tree.proofs.Risen.{found_at, found_unless_deep}
use Rattle.event_tree.proofs.ev_tree.EvTree.event_with_point.Goals as goal

pub returns-then-grew-clause-raised : goal.returns-then-grew-clause-raised
returns-then-grew-clause-raised c =
    let raises = raises_event c.args.id.now c.args.tree.now c.each_tree_is_normal.ensures c.requires.some c.normal.ensures.normal in
    let outside = rw (← c.in_ok-grew.ensures.exact) at raises.raised.outside in
    let grew = c.in_ok-grew.ensures.grew c.if-grew.true in
    raised_where c.args.id.now c.args.tree.now c.event_into.new.made outside c.event_into.new.growth.steps c.event_into.new.growth.point grew c.raised.result c.raised.ensures.point c.raised.ensures.few

pub returns-clause-raised : goal.returns-clause-raised
returns-clause-raised c =
    let raises = raises_event c.args.id.now c.args.tree.now c.each_tree_is_normal.ensures c.requires.some c.normal.ensures.normal in
    let is = c.in_ok-grew.ensures.exact in
    rw is (found_at _ _ _ raises.raised.outside c.risen_point-raised.result (rw is at c.risen_point-raised.ensures.risen))

pub returns-clause-deep : goal.returns-clause-deep
returns-clause-deep c =
    let raises = raises_event c.args.id.now c.args.tree.now c.each_tree_is_normal.ensures c.requires.some c.normal.ensures.normal in
    let is = c.in_ok-grew.ensures.exact in
    rw is (found_unless_deep _ _ _ raises.raised.outside raises.rises c.risen_point-raised.result (rw is at c.risen_point-raised.ensures.none))
