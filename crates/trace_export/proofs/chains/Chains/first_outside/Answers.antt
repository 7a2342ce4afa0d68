use Rattle.std.proofs.Common.{◌≡◌, ◌-◌, ◌<◌, ◌≤◌, suc, length, sym, ap, ◌∙◌, arith}
use Rattle.std.proofs.lemmas.Bool.{false≢true}
use Rattle.std.proofs.lemmas.List.{get_or_default}
use Rattle.trace_export.specs.Chains.{before_of}
use Rattle.trace_export.proofs.Chaining.{before_is}
use Rattle.trace_export.proofs.chains.Chains.first_outside.Goals as goal
use Rattle.trace_export.proofs.chains.Chains.first_outside.Goals.{Else-has_bit}

-- what was read is the event before the one that was looked at
read_before : (c : Else-has_bit) → c.index.result.now ≡ before_of c.args.self.now.before.items c.loop-first.first
read_before c =
    let within : c.loop-first.first - 1 < length c.args.self.now.before.items = omega (arith, c.loop-first.invariant.some, c.loop-first.invariant.low, c.requires.event.1) in
    c.index.ensures ∙ get_or_default c.args.self.now.before.items (c.loop-first.first - 1) c.index.result.now 0 within
    ∙ before_is c.args.self.now.before.items c.loop-first.first c.loop-first.invariant.some

pub loop-first-smaller : goal.loop-first-smaller
loop-first-smaller c =
    let small : c.loop-first.first ≤ length c.args.self.now.before.items = omega (arith, c.loop-first.invariant.low, c.requires.event.1) in
    omega (arith, read_before c, c.requires.back c.loop-first.first c.loop-first.invariant.some small)

pub loop-first-preserved : goal.loop-first-preserved
loop-first-preserved c = record {
  some = omega (arith, c.if-before-eq0.false);
  low = omega (arith, loop-first-smaller c, c.loop-first.invariant.low);
  chain = (suc c.loop-first.invariant.chain.0, ap (before_of c.args.self.now.before.items) c.loop-first.invariant.chain.1 ∙ sym (read_before c));
  outside = λ missing bit. false≢true (sym c.if-has_bit.false ∙ c.has_bit.ensures.1 bit);
}
