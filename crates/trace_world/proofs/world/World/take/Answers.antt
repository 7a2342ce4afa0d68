use Rattle.std.proofs.Common.{◌<◌, length, sym, subst}
use Rattle.trace_types.specs.world.World.{World, IsDue}
use Rattle.trace_types.proofs.Interleaving.{IsDue-from_step}
use Rattle.tenant_ledger.specs.Answers.{taken_answer}
use Rattle.trace_world.specs.Tenants.{IsLedTo, StepsAt}
use Rattle.trace_world.proofs.Leading.{IsLedTo-world}
use Rattle.trace_world.proofs.Standing.{IsWorld-at, StepsOne-at, length-StepsAt, written_back}
use Rattle.trace_world.proofs.world.World.take.Goals as goal

pub invariant_of-self : goal.invariant_of-self
invariant_of-self g c =
    let step = subst (λ tenants. StepsAt tenants c.args.tenant c.args.request.now (taken_answer c.take.result) c.take.new.ledgers) c.deref_mut.ensures.value c.take.ensures.step in
    rw (written_back c.self.inside.ledgers.len c.deref_mut.result.now c.take.new.ledgers c.self.inside.ledgers.items c.deref_mut.ensures.len (length-StepsAt c.take.ensures.step))
    (IsWorld-at _ c.args.tenant c.args.request.now (taken_answer c.take.result) c.take.new.ledgers c.self.invariant step)

pub returns-clause-due : goal.returns-clause-due
returns-clause-due g c =
    let old : World = record { names = c.self.inside.names; limits = c.self.inside.limits; tenants = c.self.inside.ledgers.items } in
    let new : World = record old { tenants = c.take.new.ledgers } in
    let step = subst (λ tenants. StepsAt tenants c.args.tenant c.args.request.now (taken_answer c.take.result) c.take.new.ledgers) c.deref_mut.ensures.value c.take.ensures.step in
    rw (written_back c.self.inside.ledgers.len c.deref_mut.result.now c.take.new.ledgers c.self.inside.ledgers.items c.deref_mut.ensures.len (length-StepsAt c.take.ensures.step))
    (subst (λ (world : World). IsDue world c.args.tenant c.args.request.now (taken_answer c.take.result) new) c.self.view_is
    (IsDue-from_step old c.args.tenant c.args.request.now (taken_answer c.take.result) new (StepsOne-at old c.args.tenant c.args.request.now (taken_answer c.take.result) c.take.new.ledgers step)
    (subst (λ (world : World). c.args.tenant < length world.tenants) (sym c.self.view_is) c.requires.tenant)))

pub returns-clause-led : goal.returns-clause-led
returns-clause-led g c = subst IsLedTo c.self.view_is (IsLedTo-world _ c.self.invariant)
