use Rattle.std.proofs.Common.{ℕ, ◌&&◌, nat_eq, ap, sym, ◌∙◌}
use Rattle.order_cache.specs.Caches.{Cache}
use Rattle.order_cache.specs.Rows.{AreOf}
use Rattle.order_cache.proofs.HomesOfRows.{AreOf-put}
use Rattle.order_cache.proofs.remembered.Remembered.remember.Goals as goal

pub invariant_of-self : goal.invariant_of-self
invariant_of-self c =
    let are : AreOf c.self.inside.home c.deref_mut.result.now.entries = rw c.deref_mut.ensures.value c.self.invariant in
    AreOf-put c.self.inside.home c.put.result (λ (one : ℕ × ℕ) (other : ℕ × ℕ). nat_eq one.0 other.0 && nat_eq one.1 other.1)
    c.deref_mut.result.now c.put.new.self c.key.result c.args.compared c.put.ensures.entries c.put.ensures.err are (c.requires ∙ sym (ap (λ (cache : Cache). cache.home) c.self.view_is))
