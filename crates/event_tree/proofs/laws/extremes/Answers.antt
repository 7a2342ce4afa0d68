use Rattle.event_tree.proofs.Bounds.{minimum-le-value, value-le-maximum, reaches_minimum, reaches_maximum}
use Rattle.event_tree.proofs.laws.extremes.Goals as goal

pub returns : goal.returns
returns c tree = record {
  least = minimum-le-value tree;
  least_reached = reaches_minimum tree;
  greatest = value-le-maximum tree;
  greatest_reached = reaches_maximum tree;
}
