use Rattle.std.proofs.Common.{Err}
use Rattle.std.proofs.lemmas.Result.{err_from_is_err_and}
use Rattle.line_protocol.proofs.GatherLemmas.{Gathers-number, WritesFront-gathered_number}
use Rattle.line_protocol.proofs.PatienceLemmas.{TriesToWrite-ok, TriesToWrite-err, TriesToWrite-then}
use Rattle.line_protocol.proofs.gather.gather_numbers.Goals as goal

pub returns-in_err-gather_number-clause-gathered : goal.returns-in_err-gather_number-clause-gathered
returns-in_err-gather_number-clause-gathered g c =
    let failed = err_from_is_err_and c.from_residual.result c.from_residual.ensures.1 in
    rw failed.1
    (WritesFront-gathered_number c.args.numbers.now c.loop-number.number-index c.loop-number-test.true c.loop-number.invariant.gathered c.in_err-gather_number.ensures.gathered)

pub loop-number-preserved : goal.loop-number-preserved
loop-number-preserved g c = record {
  gathered = Gathers-number c.args.numbers.now c.loop-number.number-index c.loop-number-test.true c.loop-number.invariant.gathered c.in_ok-gather_number.ensures.gathered;
  room = c.in_ok-gather_number.ensures.room;
  tries = TriesToWrite-ok tt (TriesToWrite-then c.loop-number.invariant.tries c.in_ok-gather_number.ensures.tries);
}

pub returns-in_err-gather_number-clause-tries : goal.returns-in_err-gather_number-clause-tries
returns-in_err-gather_number-clause-tries g c =
    let failed = err_from_is_err_and c.from_residual.result c.from_residual.ensures.1 in
    rw failed.1 (TriesToWrite-err _ (TriesToWrite-then {result = Err c.in_err-gather_number.field-0.0} c.loop-number.invariant.tries c.in_err-gather_number.ensures.tries))
