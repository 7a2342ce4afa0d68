use Rattle.std.proofs.Common.{◌≡◌, ◌-◌, ◌∙◌, ℕ, All, length, sym, subst, arith}
use Rattle.std.proofs.lemmas.Bool.{false≢true}
use Rattle.event_tree.specs.Comparison.{IsBelow}
use Rattle.trace_export.specs.Bits.{HasBit}
use Rattle.trace_export.specs.Chains.{IsOnChain}
use Rattle.trace_export.specs.Edges.{IsPlaced, listed_tree}
use Rattle.trace_export.specs.Graph.{IsFirstMissing}
use Rattle.trace_export.specs.declared.placed.Placed.{Placed}
use Rattle.trace_export.proofs.Chaining.{found_first, none_missing}
use Rattle.trace_export.proofs.graph.Graph.is_above_first.Goals as goal
use Rattle.trace_export.proofs.graph.Graph.is_above_first.Goals.{After-first_outside-first}

-- the event that is missing first in the chain is the one that was found
is_first : (c : After-first_outside-first) (other : ℕ) → IsPlaced c.args.self.now.placed.items other → IsOnChain c.args.self.now.chains.before.items other c.args.event
    → IsFirstMissing c.args.self.now.placed.items c.args.reaching.now other → other ≡ c.first_outside-first.result
is_first c other within on missing =
    let graph = c.requires.graph in
    let chained : length c.args.self.now.chains.before.items ≡ length c.args.self.now.placed.items = graph.chained ∙ graph.whole in
    let found = c.first_outside-first.ensures in
    found_first c.args.self.now.placed.items c.args.self.now.chains.before.items c.args.self.now.chains.tails.items graph.lines.back graph.chains (omega (arith, chained)) c.args.reaching.now c.requires.closed
    c.args.event other c.first_outside-first.result (omega (arith, chained, c.requires.event.1)) within.0 (omega (arith, chained, within.1)) on missing
    found.placed.0 found.chain (found.outside (λ bit. false≢true (sym c.if-has_bit.false ∙ c.has_bit.ensures.1 bit))) found.first

pub returns-then-has_bit-clause-not_above : goal.returns-then-has_bit-clause-not_above
returns-then-has_bit-clause-not_above c = λ _ other within on missing below.
    let graph = c.requires.graph in
    let chained : length c.args.self.now.chains.before.items ≡ length c.args.self.now.placed.items = graph.chained ∙ graph.whole in
    none_missing c.args.self.now.placed.items c.args.self.now.chains.before.items c.args.self.now.chains.tails.items graph.lines.back graph.chains (omega (arith, chained)) c.args.reaching.now c.requires.closed
    c.args.event other (omega (arith, chained, c.requires.event.1)) within.0 (c.has_bit.ensures.0 c.if-has_bit.true) on missing.0

pub returns-then-not-all_reach-clause-not_above : goal.returns-then-not-all_reach-clause-not_above
returns-then-not-all_reach-clause-not_above c = λ _ other within on missing below.
    let at = goal.at.returns-then-not-all_reach-clause-not_above c in
    let this = is_first at.After-first_outside-first other within on missing in
    let first = subst (IsFirstMissing c.args.self.now.placed.items c.args.reaching.now) this missing in
    false≢true (sym c.if-not-all_reach.true ∙ c.all_reach.ensures.1 (subst (λ (found : Placed). All (λ pred. HasBit c.args.reaching.now (pred - 1)) found.preds) (sym c.at.ensures) first.1))

pub returns-clause-above : goal.returns-clause-above
returns-clause-above c = λ yes.
    let found = c.first_outside-first.ensures in (
      c.first_outside-first.result,
      (found.placed.0, omega (arith, found.placed.1, c.requires.event.1)),
      found.outside (λ bit. false≢true (sym c.if-has_bit.false ∙ c.has_bit.ensures.1 bit)),
      c.is_above.ensures.above.0 yes,
    )

pub returns-clause-not_above : goal.returns-clause-not_above
returns-clause-not_above c = λ no other within on missing below.
    let at = goal.at.returns-clause-not_above c in
    let this = is_first at.After-first_outside-first other within on missing in
    false≢true (sym no ∙ c.is_above.ensures.above.1 (subst (λ event. IsBelow (listed_tree c.args.self.now.placed.items event) c.args.tree.now) this below))
