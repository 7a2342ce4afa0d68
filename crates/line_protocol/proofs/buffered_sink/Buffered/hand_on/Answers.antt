use Rattle.std.proofs.Common.{◌∙◌, refl, arith}
use Rattle.line_protocol.proofs.CallLemmas.{handed_on, took_some}
use Rattle.std.proofs.KnownBytes.{Keeps-refl, Keeps-trans}
use Rattle.line_protocol.proofs.buffered_sink.Buffered.hand_on.Goals as goal

pub returns-in_err-count-clause-began : goal.returns-in_err-count-clause-began
returns-in_err-count-clause-began g c = Keeps-trans _ _ _ c.loop-self.invariant.began c.write_some.ensures.writes.began

pub returns-then-count-eq0-clause-began : goal.returns-then-count-eq0-clause-began
returns-then-count-eq0-clause-began g c = Keeps-trans _ _ _ c.loop-self.invariant.began c.write_some.ensures.writes.began

pub loop-self-init : goal.loop-self-init
loop-self-init g c = record { taken = refl; failures = refl; interruptions = refl; began = Keeps-refl _; log = refl }

pub loop-self-preserved : goal.loop-self-preserved
loop-self-preserved g c =
    let before = c.loop-self.invariant in
    let once = c.in_ok-count.ensures.writes in
    record {
      taken = handed_on _ _ c.loop-self.self.bytes.items _ c.loop-self.self.start c.in_ok-count.count (rw c.deref.ensures.value at once.taken) before.taken;
      failures = took_some _ _ c.in_ok-count.count _ c.if-count-eq0.false once.failures ∙ before.failures;
      interruptions = omega (arith, once.interruptions, before.interruptions);
      began = Keeps-trans _ _ _ before.began c.write_some.ensures.writes.began;
      log = before.log;
    }
