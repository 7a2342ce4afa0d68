use Rattle.std.proofs.Common.{refl, sym, ap, ◌∙◌, subst}
use Rattle.tenant_desk.specs.Histories.{head_of, longer_by}
use Rattle.tenant_ledger.specs.Ledger.{IsKept, with_event}
use Rattle.tenant_desk.specs.Events.{Published}
use Rattle.tenant_desk.proofs.Publishing.{is_for_next, none_waits, still_shown}
use Rattle.tenant_desk.proofs.publisher.Publisher.publish.Goals as goal

pub show-requires-clause-waiting : goal.show-requires-clause-waiting
show-requires-clause-waiting g c = none_waits _ _ c.has_pending_operations.ensures c.if-has_pending_operations.false

pub show-requires-clause-operation : goal.show-requires-clause-operation
show-requires-clause-operation g c =
    is_for_next c.self.inside.writer.desk.shown.value c.args.event _ c.self.invariant.1.sound
    (subst (λ (published : Published). IsKept (with_event c.args.event published.events)) (sym c.self.view_is) c.requires)
    refl (c.in-Some.ensures ∙ (λ i. longer_by (c.row.ensures i) ((c.front.ensures.front ∙ ap (λ (published : Published). published.front) (sym c.self.view_is)) i)))

pub invariant_of-self : goal.invariant_of-self
invariant_of-self g c =
    let for = is_for_next c.self.inside.writer.desk.shown.value c.args.event _ c.self.invariant.1.sound
    (subst (λ (published : Published). IsKept (with_event c.args.event published.events)) (sym c.self.view_is) c.requires)
    refl (c.in-Some.ensures ∙ (λ i. longer_by (c.row.ensures i) ((c.front.ensures.front ∙ ap (λ (published : Published). published.front) (sym c.self.view_is)) i))) in
    let now = still_shown c.show.result _ _ _ _ _ c.self.invariant.1 for c.show.ensures.shown c.show.ensures.known in
    (c.self.invariant.0 ∙ ap head_of (sym now.0), now.1)
