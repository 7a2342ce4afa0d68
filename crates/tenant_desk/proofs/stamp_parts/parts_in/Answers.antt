use Rattle.std.proofs.Common.{refl, sym, ◌∙◌}
use Rattle.tenant_ledger.proofs.keeping.Answered.{stamp_answered}
use Rattle.tenant_ledger.specs.Ledger.{tenant_of}
use Rattle.tenant_desk.proofs.stamp_parts.parts_in.Goals as goal

pub returns-clause-answer : goal.returns-clause-answer
returns-clause-answer c =
    let found = c.in_ok-id.ensures in
    stamp_answered (tenant_of c.args.events.now) c.args.event (sym found.there) c.id_value.result.now c.tree_value.result.now (c.id_value.ensures ∙ found.id) (c.tree_value.ensures ∙ found.tree) _ refl
