use Rattle.std.proofs.Common.{◌+◌}
use Rattle.event_tree.proofs.ev_tree.point_search.+risen_halves.Given as goal

abbrev pub decreases-risen_halves : goal.decreases-risen_halves
decreases-risen_halves l = l.levels + l.levels + 1

abbrev pub decreases-risen_below : goal.decreases-risen_below
decreases-risen_below l = l.levels + l.levels
