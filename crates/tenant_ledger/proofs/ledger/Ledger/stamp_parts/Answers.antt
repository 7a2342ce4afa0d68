use Rattle.std.proofs.Common.{ap, ◌∙◌}
use Rattle.tenant_ledger.proofs.Words.{tenant_of}
use Rattle.tenant_ledger.proofs.keeping.Answered.{stamp_told}
use Rattle.tenant_ledger.proofs.ledger.Ledger.stamp_parts.Goals as goal

pub returns : goal.returns
returns g c =
    let told = c.stamp_parts.ensures in
    stamp_told (λ id. g.S.Id.KeptId.id id.now) (λ tree. g.S.Kept.Meant.tree tree.now) (tenant_of c.deref.result.now) c.args.self.now c.args.event c.stamp_parts.result
    (ap tenant_of c.deref.ensures ∙ c.self.view_is) told.there told.id told.tree
