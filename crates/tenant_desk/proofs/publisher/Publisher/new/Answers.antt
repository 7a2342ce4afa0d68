use Rattle.std.proofs.Common.{refl, sym, ap, ◌∙◌}
use Rattle.tenant_desk.specs.Histories.{head_of}
use Rattle.tenant_desk.specs.Events.{Published}
use Rattle.tenant_desk.proofs.publisher.Publisher.new.Goals as goal

pub invariant_of-result : goal.invariant_of-result
invariant_of-result g c =
    let same = c.show_again-else-not-show_again.ensures.same ∙ c.show_again.ensures.same ∙ c.in_ok-writer.ensures.shown in
    (c.new_log-head.ensures.head ∙ ap (λ (published : Published). head_of published.front.log) (sym same), c.if-not-show_again-2.ensures.shown refl)
