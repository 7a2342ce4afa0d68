use Rattle.std.proofs.Common.{[], refl, sym, ◌∙◌, subst}
use Rattle.tenant_desk.specs.Events.{Published, no_events}
use Rattle.tenant_desk.specs.Rules.{IsPublished}
use Rattle.std.specs.Arc.{arc_value}
use Rattle.tenant_desk.proofs.Publishing.{none_are_published}
use Rattle.tenant_desk.proofs.Steps.{admits}
use Rattle.tenant_desk.proofs.publisher.new_writer.Goals as goal

pub new-requires-clause-rule : goal.new-requires-clause-rule
new-requires-clause-rule g c =
    let home = (arc_value c.args.shared.now).trees in
    let sound = subst (λ (shown : Published). IsPublished shown) (sym c.in_ok-first.ensures)
    (none_are_published (no_events home c.args.limits) home c.args.limits c.args.front.now refl c.requires) in
    admits _ [] (sound, λ place sight at. absurd (cc at))

pub returns-clause-sound : goal.returns-clause-sound
returns-clause-sound g c =
    let home = (arc_value c.args.shared.now).trees in
    subst (λ (shown : Published). IsPublished shown) (sym (c.in_ok-new.ensures.0 ∙ c.in_ok-first.ensures))
    (none_are_published (no_events home c.args.limits) home c.args.limits c.args.front.now refl c.requires)
