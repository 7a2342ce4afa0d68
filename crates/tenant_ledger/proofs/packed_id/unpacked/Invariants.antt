use Rattle.std.proofs.Common.{◌≡◌, [], drop}
use Rattle.tenant_ledger.specs.Packing.{with_nodes}
use Rattle.tenant_ledger.proofs.packed_id.unpacked.Given as goal

abbrev pub invariant-loop-node : goal.invariant-loop-node
invariant-loop-node l = with_nodes l.ids.items (drop l.node-index l.nodes) ≡ with_nodes [] l.nodes
