use Rattle.event_tree.proofs.Paths.{half_of-last, within_half-last, past_end}
use Rattle.event_tree.proofs.path.parted.Goals as goal

pub returns-in-Some-clause-half : goal.returns-in-Some-clause-half
returns-in-Some-clause-half c = half_of-last c.args.rights.now c.in-Some.below.now c.in-Some.right.now c.in-Some.ensures.cases.0

pub returns-in-Some-clause-below : goal.returns-in-Some-clause-below
returns-in-Some-clause-below c = within_half-last c.args.rights.now c.in-Some.below.now c.in-Some.right.now c.in-Some.ensures.cases.0

pub returns-in-None-clause-half : goal.returns-in-None-clause-half
returns-in-None-clause-half c = (past_end c.args.rights.now c.in-None.ensures.cases).0

pub returns-in-None-clause-below : goal.returns-in-None-clause-below
returns-in-None-clause-below c = (past_end c.args.rights.now c.in-None.ensures.cases).1
