use Rattle.std.proofs.Common.{arith, subst, take_all, ◌↔◌, ◌⊎◌, List, ℕ, ◌≤◌, length}
use Rattle.trace_export.specs.Bits.{HasBit}
use Rattle.trace_export.specs.Graph.{rows_of, IsReachedBy}
use Rattle.trace_export.proofs.Reached.{reached-step}
use Rattle.trace_export.proofs.graph.Graph.add_reaching.Goals as goal

pub loop-pred-preserved : goal.loop-pred-preserved
loop-pred-preserved c = record {
  room = omega (arith, c.add_one_reaching.ensures.room, c.loop-pred.invariant.room);
  has = λ place. reached-step (rows_of c.args.self.now) c.args.preds.now c.loop-pred.pred-index place c.args.bits.now c.loop-pred.bits c.add_one_reaching.new.bits c.loop-pred-test.true (c.loop-pred.invariant.has place) (c.add_one_reaching.ensures.reaching place);
}

pub returns-clause-reaching : goal.returns-clause-reaching
returns-clause-reaching c = λ place.
    let whole : length c.args.preds.now ≤ c.loop-pred.pred-index = omega (arith, c.loop-pred-test.false) in
    subst (λ (preds : List ℕ). HasBit c.loop-pred.bits place ↔ (HasBit c.args.bits.now place ⊎ IsReachedBy (rows_of c.args.self.now) preds place)) (take_all c.loop-pred.pred-index c.args.preds.now whole) (c.loop-pred.invariant.has place)
