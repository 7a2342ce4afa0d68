use Rattle.std.proofs.Common.{refl, ap, arith}
use Rattle.trace_types.specs.clock.Points.{Left, Right}
use Rattle.trace_types.specs.clock.EventTree.{Node as plain_Node, maximum}
use Rattle.event_tree.proofs.Events.{raises_event}
use Rattle.event_tree.proofs.Growing.{grew_above}
use Rattle.event_tree.proofs.Narrow.{event_left, event_right}
use Rattle.event_tree.proofs.ev_tree.+event_into.Goals as goal

pub Children::event_on_right-fork_with-requires : goal.Children::event_on_right-fork_with-requires
Children::event_on_right-fork_with-requires t c =
    let raises = raises_event c.args.id.now c.args.self.now.right c.each_tree_is_normal.ensures c.requires.some c.requires.normal.1 in
    let right = ap maximum c.in_ok-grew.ensures.exact in
    let left = ap maximum c.in_ok-share.ensures.exact in
    rw (c.replace-right.ensures.value, c.replace-right.ensures.after) (omega (arith, c.requires.fits, left, right, raises.bounded))

pub Children::event_on_right-returns-clause-exact : goal.Children::event_on_right-returns-clause-exact
Children::event_on_right-returns-clause-exact t c =
    rw (c.in_ok-fork_with.ensures.exact, c.replace-right.ensures.value, c.replace-right.ensures.after, c.in_ok-grew.ensures.exact, c.in_ok-share.ensures.exact, event_right c.args.id.now c.args.base c.args.self.now.left c.args.self.now.right c.requires.normal c.requires.part)
    refl

pub Children::event_on_right-returns-clause-grew : goal.Children::event_on_right-returns-clause-grew
Children::event_on_right-returns-clause-grew t c = λ grew.
    let raises = raises_event c.args.id.now c.args.self.now.right c.each_tree_is_normal.ensures c.requires.some c.requires.normal.1 in
    let normal = rw (← c.in_ok-grew.ensures.exact) at raises.normal in
    rw (c.in_ok-fork_with.ensures.exact, c.replace-right.ensures.value, c.replace-right.ensures.after, c.in_ok-share.ensures.exact, c.in_ok-lift.ensures.steps grew)
    (grew_above Right c.event_into.new.growth.steps (plain_Node c.args.base c.args.self.now.left c.args.self.now.right) c.event_into.new.made c.event_into.new.growth.point c.lift.new.self.point
    c.requires.normal normal (c.in_ok-grew.ensures.grew grew) (c.in_ok-lift.ensures.halves grew) (c.in_ok-lift.ensures.value grew))

pub Children::event_on_left-fork_with-requires : goal.Children::event_on_left-fork_with-requires
Children::event_on_left-fork_with-requires t c =
    let raises = raises_event c.args.id.now c.args.self.now.left c.each_tree_is_normal.ensures c.requires.some c.requires.normal.0 in
    let left = ap maximum c.in_ok-grew.ensures.exact in
    let right = ap maximum c.in_ok-right.ensures.exact in
    omega (arith, c.requires.fits, left, right, raises.bounded)

pub Children::event_on_left-returns-clause-exact : goal.Children::event_on_left-returns-clause-exact
Children::event_on_left-returns-clause-exact t c =
    rw (c.in_ok-fork_with.ensures.exact, c.in_ok-grew.ensures.exact, c.in_ok-right.ensures.exact, event_left c.args.id.now c.args.base c.args.self.now.left c.args.self.now.right c.requires.normal c.requires.part c.each_tree_is_normal.ensures c.requires.some)
    refl

pub Children::event_on_left-returns-clause-grew : goal.Children::event_on_left-returns-clause-grew
Children::event_on_left-returns-clause-grew t c = λ grew.
    let raises = raises_event c.args.id.now c.args.self.now.left c.each_tree_is_normal.ensures c.requires.some c.requires.normal.0 in
    let normal = rw (← c.in_ok-grew.ensures.exact) at raises.normal in
    rw (c.in_ok-fork_with.ensures.exact, c.in_ok-right.ensures.exact, c.in_ok-lift.ensures.steps grew)
    (grew_above Left c.event_into.new.growth.steps (plain_Node c.args.base c.args.self.now.left c.args.self.now.right) c.event_into.new.made c.event_into.new.growth.point c.lift.new.self.point
    c.requires.normal normal (c.in_ok-grew.ensures.grew grew) (c.in_ok-lift.ensures.halves grew) (c.in_ok-lift.ensures.value grew))
