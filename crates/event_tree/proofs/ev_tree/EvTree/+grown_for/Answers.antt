use Rattle.std.proofs.Common.{ap, sym, ◌∙◌, arith}
use Rattle.trace_types.specs.clock.Points.{Left, Right}
use Rattle.trace_types.specs.clock.EventTree.{maximum}
use Rattle.event_tree.proofs.Growing.{grew_above}
use Rattle.event_tree.proofs.Grown.{maximum-opened, normal_left_of, normal_right_of}
use Rattle.event_tree.proofs.Pricing.{maximum-grown_for, least_left, least_right, found_right, found_left, found_none, normal-grown_for, spent_none}
use Rattle.event_tree.proofs.ev_tree.EvTree.+grown_for.Goals as goal

pub grown_below-returns-in_default-clause-exact : goal.grown_below-returns-in_default-clause-exact
grown_below-returns-in_default-clause-exact t c =
    (spent_none c.args.id.0.now c.args.id.1.now c.args.self.now c.args.price (rw c.opened-opened.ensures.expansion at c.in_default.ensures.spent))

pub grown_below-grown_for-requires : goal.grown_below-grown_for-requires
grown_below-grown_for-requires t c =
    let least = c.requires.least in
    let expansions = rw c.opened-opened.ensures.expansion at c.in-Some.ensures.left.0 in
    let low = least_right c.args.id.0.now c.args.id.1.now c.args.self.now c.args.price c.in-Some.price expansions c.in-Some.ensures.left.1 least in
    (omega arith, (rw c.opened-opened.ensures.right low, (rw c.opened-opened.ensures.right (omega (arith, maximum-opened c.args.self.now)), c.requires.zero)))

pub grown_below-fork_with-requires : goal.grown_below-fork_with-requires
grown_below-fork_with-requires t c =
    let found = rw c.opened-opened.ensures.right at (sym c.in_ok-right.ensures.exact ∙ c.in-Some-2.is) in
    let left = ap maximum (c.in_ok-tree.ensures.exact ∙ c.opened-opened.ensures.left) in
    omega (arith, left, maximum-opened c.args.self.now, maximum-grown_for c.in-Some.price c.args.id.1.now _ c.in-Some-2.right found)

pub grown_below-returns-in-Some-2-clause-exact : goal.grown_below-returns-in-Some-2-clause-exact
grown_below-returns-in-Some-2-clause-exact t c =
    let least = c.requires.least in
    let expansions = rw c.opened-opened.ensures.expansion at c.in-Some.ensures.left.0 in
    let found = rw c.opened-opened.ensures.right at (sym c.in_ok-right.ensures.exact ∙ c.in-Some-2.is) in
    let normal = normal_left_of c.args.self.now c.opened-opened.ensures.normal in
    let left = c.in_ok-tree.ensures.exact ∙ c.opened-opened.ensures.left in
    rw (c.in_ok-fork_with.ensures.exact, c.opened-opened.ensures.root, left)
    (found_right c.args.id.0.now c.args.id.1.now c.args.self.now c.args.price c.in-Some.price expansions c.in-Some.ensures.left.1 least c.in-Some-2.right normal found)

pub grown_below-grown_for-requires-2 : goal.grown_below-grown_for-requires-2
grown_below-grown_for-requires-2 t c =
    let least = c.requires.least in
    let expansions = rw c.opened-opened.ensures.expansion at c.in-Some.ensures.left.0 in
    let low = least_left c.args.id.0.now c.args.id.1.now c.args.self.now c.args.price c.in-Some.price expansions c.in-Some.ensures.left.1 least in
    (omega arith, (rw c.opened-opened.ensures.left low, (rw c.opened-opened.ensures.left (omega (arith, maximum-opened c.args.self.now)), c.requires.zero)))

pub grown_below-returns-in_default-3-clause-exact : goal.grown_below-returns-in_default-3-clause-exact
grown_below-returns-in_default-3-clause-exact t c =
    let least = c.requires.least in
    let expansions = rw c.opened-opened.ensures.expansion at c.in-Some.ensures.left.0 in
    let not_right = rw c.opened-opened.ensures.right at (sym c.in_ok-right.ensures.exact ∙ c.in_default-2.is) in
    let not_left = rw c.opened-opened.ensures.left at (sym c.in_ok-tree-2.ensures.exact ∙ c.in_default-3.is) in
    (found_none c.args.id.0.now c.args.id.1.now c.args.self.now c.args.price c.in-Some.price expansions c.in-Some.ensures.left.1 least not_right not_left)

pub grown_below-fork_with-requires-2 : goal.grown_below-fork_with-requires-2
grown_below-fork_with-requires-2 t c =
    let found = rw c.opened-opened.ensures.left at (sym c.in_ok-tree-2.ensures.exact ∙ c.in-Some-3.is) in
    let right = ap maximum (c.in_ok-right-2.ensures.exact ∙ c.opened-opened.ensures.right) in
    omega (arith, right, maximum-opened c.args.self.now, maximum-grown_for c.in-Some.price c.args.id.0.now _ c.in-Some-3.tree found)

pub grown_below-returns-clause-exact : goal.grown_below-returns-clause-exact
grown_below-returns-clause-exact t c =
    let least = c.requires.least in
    let expansions = rw c.opened-opened.ensures.expansion at c.in-Some.ensures.left.0 in
    let not_right = rw c.opened-opened.ensures.right at (sym c.in_ok-right.ensures.exact ∙ c.in_default-2.is) in
    let found = rw c.opened-opened.ensures.left at (sym c.in_ok-tree-2.ensures.exact ∙ c.in-Some-3.is) in
    let normal = normal_right_of c.args.self.now c.opened-opened.ensures.normal in
    let right = c.in_ok-right-2.ensures.exact ∙ c.opened-opened.ensures.right in
    rw (c.in_ok-fork_with-2.ensures.exact, c.opened-opened.ensures.root, right)
    (found_left c.args.id.0.now c.args.id.1.now c.args.self.now c.args.price c.in-Some.price expansions c.in-Some.ensures.left.1 least c.in-Some-3.tree normal not_right found)

pub grown_below-lift-requires-clause-fits : goal.grown_below-lift-requires-clause-fits
grown_below-lift-requires-clause-fits t c =
    let grew = rw c.in-Some-2.is at c.in_ok-right.ensures.point in
    let bounded = rw c.opened-opened.ensures.right at grew.bounded in
    rw c.opened-opened.ensures.root (omega (arith, bounded, maximum-opened c.args.self.now))

pub grown_below-lift-requires-2-clause-fits : goal.grown_below-lift-requires-2-clause-fits
grown_below-lift-requires-2-clause-fits t c =
    let grew = rw c.in-Some-3.is at c.in_ok-tree-2.ensures.point in
    let bounded = rw c.opened-opened.ensures.left at grew.bounded in
    rw c.opened-opened.ensures.root (omega (arith, bounded, maximum-opened c.args.self.now))

pub grown_below-returns-in-Some-2-clause-point : goal.grown_below-returns-in-Some-2-clause-point
grown_below-returns-in-Some-2-clause-point t c =
    let grew = rw (c.in-Some-2.is, c.opened-opened.ensures.right) at c.in_ok-right.ensures.point in
    let found = rw c.opened-opened.ensures.right at (sym c.in_ok-right.ensures.exact ∙ c.in-Some-2.is) in
    let normal = normal-grown_for c.in-Some.price c.args.id.1.now _ c.in-Some-2.right found in
    let left = c.in_ok-tree.ensures.exact ∙ c.opened-opened.ensures.left in
    rw (c.in_ok-fork_with.ensures.exact, c.opened-opened.ensures.root, left, c.in-Some.ensures.left.1)
    (grew_above Right c.in-Some.price.steps c.args.self.now c.in-Some-2.right c.grown_for.new.point c.lift.new.self
    c.opened-opened.ensures.normal normal grew c.lift.ensures.halves (rw c.opened-opened.ensures.root at c.lift.ensures.value))

pub grown_below-returns-clause-point : goal.grown_below-returns-clause-point
grown_below-returns-clause-point t c =
    let grew = rw (c.in-Some-3.is, c.opened-opened.ensures.left) at c.in_ok-tree-2.ensures.point in
    let found = rw c.opened-opened.ensures.left at (sym c.in_ok-tree-2.ensures.exact ∙ c.in-Some-3.is) in
    let normal = normal-grown_for c.in-Some.price c.args.id.0.now _ c.in-Some-3.tree found in
    let right = c.in_ok-right-2.ensures.exact ∙ c.opened-opened.ensures.right in
    rw (c.in_ok-fork_with-2.ensures.exact, c.opened-opened.ensures.root, right, c.in-Some.ensures.left.1)
    (grew_above Left c.in-Some.price.steps c.args.self.now c.in-Some-3.tree c.grown_for-2.new.point c.lift-2.new.self
    c.opened-opened.ensures.normal normal grew c.lift-2.ensures.halves (rw c.opened-opened.ensures.root at c.lift-2.ensures.value))
