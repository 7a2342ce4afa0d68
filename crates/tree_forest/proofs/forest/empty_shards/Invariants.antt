use Rattle.std.proofs.Common.{length, ◌-◌, ◌≤◌}
use Rattle.tree_forest.proofs.forest.empty_shards.Given as goal

abbrev pub invariant-loop-alloc : goal.invariant-loop-alloc
invariant-loop-alloc l = length l.shards.items ≤ 16

abbrev pub decreases-loop-alloc : goal.decreases-loop-alloc
decreases-loop-alloc l = 16 - length l.shards.items
