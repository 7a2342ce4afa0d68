use Rattle.std.proofs.Common.{ap, sym, ◌∙◌}
use Rattle.order_cache.specs.Caches.{Cache}
use Rattle.order_cache.specs.Rows.{AreOf}
use Rattle.order_cache.proofs.HomesOfRows.{AreOf-promoted, AreOf-lookup}
use Rattle.order_cache.proofs.remembered.Remembered.recall.Goals as goal

pub invariant_of-self : goal.invariant_of-self
invariant_of-self c =
    let are : AreOf c.self.inside.home c.deref_mut.result.now.entries = rw c.deref_mut.ensures.value c.self.invariant in
    rw c.get.follows.holds-at-none (AreOf-promoted c.self.inside.home _ c.deref_mut.result.now.entries are)

pub order_of-requires-clause-row : goal.order_of-requires-clause-row
order_of-requires-clause-row c =
    let are : AreOf c.self.inside.home c.deref_mut.result.now.entries = rw c.deref_mut.ensures.value c.self.invariant in
    AreOf-lookup c.self.inside.home _ c.deref_mut.result.now.entries c.in_ok-get.field-0.now are (sym c.in_ok-get.ensures.value)
    ∙ ap (λ (cache : Cache). cache.home) c.self.view_is ∙ c.requires.cache

pub invariant_of-self-2 : goal.invariant_of-self-2
invariant_of-self-2 c =
    let are : AreOf c.self.inside.home c.deref_mut.result.now.entries = rw c.deref_mut.ensures.value c.self.invariant in
    rw c.get.follows.holds-at-none (AreOf-promoted c.self.inside.home _ c.deref_mut.result.now.entries are)
