use Rattle.std.proofs.Common.{◌≡◌, ◌∙◌, inl, inr, refl, arith, subst, Err}
use Rattle.line_protocol.specs.declared.stop.Stop.{Stop}
use Rattle.line_protocol.specs.Sink.{FlushesOnce}
use Rattle.std.proofs.KnownBytes.{Keeps-trans}
use Rattle.line_protocol.proofs.PatientTexts.{OnlyFlushWaits, OnlyFlushWaits-none, OnlyFlushWaits-more, FlushesPatiently-done, GivesUpFlushing-failed, GivesUpFlushing-waited}
use Rattle.line_protocol.proofs.reply.flush.Goals as goal

pub loop-init : goal.loop-init
loop-init g c = record { taken = refl; failures = refl; interruptions = omega arith; waits = OnlyFlushWaits-none _ }

pub loop-preserved : goal.loop-preserved
loop-preserved g c =
    let before = c.loop.invariant in
    let once = subst (λ (stop : Stop). FlushesOnce (g.W.Sink.seen c.loop.writer) (g.W.Sink.seen c.flush.new.self) (Err stop)) c.in-Err-Interrupted.field-0-is c.in-Err-Interrupted.ensures.flushes in
    record {
      taken = once.taken ∙ before.taken;
      failures = omega (arith, once.failures, before.failures);
      interruptions = omega (arith, once.interruptions, before.interruptions);
      waits = OnlyFlushWaits-more _ _ _ c.loop.counter before.waits once;
    }

pub returns-in-Ok : goal.returns-in-Ok
returns-in-Ok g c =
    let before = c.loop.invariant in
    let once = c.in-Ok.ensures.flushes in (
      once.taken ∙ before.taken,
      once.flushed,
      record {
        failures = omega (arith, once.failures, before.failures);
        more = omega (arith, once.interruptions, before.interruptions);
        few = omega (arith, once.interruptions, before.interruptions, c.loop-test.true);
        began = Keeps-trans _ _ _ before.waits.began once.began;
      },
      FlushesPatiently-done before.waits c.loop-test.true once,
    )

pub returns-in-Err-Failed : goal.returns-in-Err-Failed
returns-in-Err-Failed g c =
    let before = c.loop.invariant in
    let once = subst (λ (stop : Stop). FlushesOnce (g.W.Sink.seen c.loop.writer) (g.W.Sink.seen c.flush.new.self) (Err stop)) c.in-Err-Failed.field-0-is c.in-Err-Failed.ensures.flushes in (
      once.taken ∙ before.taken,
      record {
        more = omega (arith, once.interruptions, before.interruptions);
        fault = inl (omega (arith, once.failures, before.failures), omega (arith, once.interruptions, before.interruptions, c.loop-test.true));
        began = Keeps-trans _ _ _ before.waits.began once.began;
      },
      GivesUpFlushing-failed before.waits c.loop-test.true once,
    )

pub returns : goal.returns
returns g c =
    let before = c.loop.invariant in
    let all : c.loop.counter ≡ 1048576 = omega (arith, c.loop-test.false, c.loop.auto.counter-end) in (
      before.taken,
      record {
        more = omega (arith, before.interruptions);
        fault = inr (before.failures, omega (arith, before.interruptions, all));
        began = before.waits.began;
      },
      GivesUpFlushing-waited (subst (OnlyFlushWaits (g.W.Sink.seen c.args.writer.now) (g.W.Sink.seen c.loop.writer)) all before.waits),
    )
