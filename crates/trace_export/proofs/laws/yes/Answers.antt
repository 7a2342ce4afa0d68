use Rattle.std.proofs.Common.{◌∙◌}
use Rattle.trace_export.proofs.GoodExports.{good_events}
use Rattle.trace_export.proofs.laws.yes.Goals as goal

pub returns : goal.returns
returns c = λ bytes count verdict.
    let good = good_events verdict.events verdict.judged.1.0 verdict.judged.1.1 in
    (verdict.judged.1.0, record { header = verdict.header; events = verdict.events; parts = verdict.parts; good = good }, verdict.judged.0 ∙ good.counted)
