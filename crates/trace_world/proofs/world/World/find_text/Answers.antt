use Rattle.std.proofs.Common.{◌<◌, ℕ, IfSome, length, subst, sym, ap, ◌∙◌}
use Rattle.trace_types.specs.world.World.{World}
use Rattle.trace_world.specs.Tenants.{IsWorld}
use Rattle.trace_world.proofs.world.World.find_text.Goals as goal

pub returns-clause-within : goal.returns-clause-within
returns-clause-within c =
    let is_world : IsWorld c.args.self.now = subst IsWorld c.self.view_is c.self.invariant in
    subst (λ (count : ℕ). IfSome c.find.result (λ place. place < count)) (ap (λ (world : World). length world.names) c.self.view_is ∙ sym is_world.one_each) c.find.ensures.within
