use Rattle.std.proofs.Common.{◌≡◌, ◌∙◌, subst}
use Rattle.std.specs.Prelude.{IfOk}
use Rattle.trace_types.specs.clock.Id.{Id}
use Rattle.trace_types.specs.text.StampText.{stamp_text}
use Rattle.tenant_ledger.proofs.query_answers.stamp_text.Goals as goal

pub returns : goal.returns
returns g c =
    let is = c.as_tree.ensures ∙ c.in_ok-id.ensures in
    subst (λ (id : Id). IfOk c.write_parts.result (λ text. text.items ≡ stamp_text id c.args.tree.now)) is c.write_parts.ensures
