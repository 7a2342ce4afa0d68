use Rattle.std.proofs.Common.{rules, ◌≡◌, ◌≢◌, ℕ, Result, Err, IfErr, subst, sym}
use Rattle.line_protocol.specs.Source.{Given}
use Rattle.line_protocol.specs.Sink.{Taken}
use Rattle.line_protocol.specs.Writing.{EndsInFault}
use Rattle.trace_types.specs.text.Name.{Text}
use Rattle.trace_export.specs.Checked.{Judges, StopsReading}
use Rattle.trace_export.specs.declared.verdict.Verdict.{Verdict}
use Rattle.collector.specs.Program.{ChecksInPart, IsFailure, line_of_verdict}
use Rattle.collector.specs.Showing.{Shows, ShowsFront}
use Rattle.collector.specs.declared.fault.Fault.{Fault}
use Rattle.collector.specs.declared.fault.Fault.TheVariants.{Memory, Write}
use Rattle.collector.proofs.Fronts.{front}
use Rattle.collector.proofs.check.tell_verdict.Goals as goal

-- the verdict could not be written
unwritten : {R : Type 0} (given : R → Given) (reader reader' : R) (taken taken' : Taken) (verdict : Verdict) (text : Text) (result : Result ℕ Fault) → result ≡ Err Write
    → Judges (given reader) (given reader') verdict → StopsReading given reader reader' verdict → text ≡ line_of_verdict verdict → Shows taken taken' text → EndsInFault taken taken'
    → IfErr result (λ fault. fault ≢ Memory → IsFailure (given reader) (given reader') taken taken' fault × ChecksInPart given fault reader reader' taken taken')
unwritten given reader reader' taken taken' verdict text result is judges stops text_is shows ends =
    subst (λ r. IfErr r (λ fault. fault ≢ Memory → IsFailure (given reader) (given reader') taken taken' fault × ChecksInPart given fault reader reader' taken taken')) (sym is)
    (λ other. (ends, record { verdict = verdict; judges = judges; stops = stops; line = subst (ShowsFront taken.bytes taken'.bytes) text_is (front taken taken' text shows) }))

pub returns-in_err-show-clause-in_part : goal.returns-in_err-show-clause-in_part
returns-in_err-show-clause-in_part g c =
    let is : c.from_residual-in_err-show.result ≡ Err Write = search rules in
    let text : c.as_str.result.now ≡ line_of_verdict c.in_ok-verdict.verdict = search rules in
    unwritten g.R.Source.seen _ _ _ _ c.in_ok-verdict.verdict c.as_str.result.now _ is c.in_ok-verdict.ensures.verdict c.in_ok-verdict.ensures.stops text c.show.ensures.shown c.in_err-show.ensures.err.1
