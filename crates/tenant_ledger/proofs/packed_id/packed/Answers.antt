use Rattle.std.proofs.Common.{◌++◌, ◌∙◌, ap}
use Rattle.tenant_ledger.specs.Packing.{id_of_nodes, packed}
use Rattle.tenant_ledger.proofs.Packing.{packed_is}
use Rattle.tenant_ledger.proofs.packed_id.packed.Goals as goal

pub returns : goal.returns
returns c =
    let id = c.args.id.now in
    let none = c.in_ok-reserve_exact.ensures.items ∙ c.new-nodes.ensures.items in
    ap id_of_nodes (c.in_ok-push_packed.ensures ∙ ap (λ before. before ++ packed id) none) ∙ packed_is id c.parts-parts.ensures.normal
