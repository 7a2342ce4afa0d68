use Rattle.std.proofs.Common.{◌≡◌, ◌∙◌, true, get_or, sym, arith}
use Rattle.std.proofs.lemmas.Bool.{and_from}
use Rattle.std.proofs.lemmas.List.Folds.{list_all_more}
use Rattle.trace_types.specs.text.Reading.{is_digit}
use Rattle.line_protocol.proofs.WordsLemmas.{number_onto-take, digit_bounds, number_fits}
use Rattle.line_protocol.proofs.request.leading_number.Goals as goal

pub loop-len-preserved : goal.loop-len-preserved
loop-len-preserved c =
    let bytes = c.args.bytes.now in
    let at = c.loop-len.len in
    let is : is_digit (get_or bytes at 0) ≡ true = sym c.is_digit.ensures ∙ c.if-is_digit.true in
    let digit = digit_bounds (get_or bytes at 0) is in
    let fits = number_fits c.loop-len.number c.from.result at c.loop-len.invariant.small (omega arith) (omega arith) in
    record {
      within = omega arith;
      few = omega arith;
      value = rw (c.loop-len.invariant.value, c.from.ensures) (sym (number_onto-take bytes at (omega arith)));
      small = fits.0;
      digits = list_all_more is_digit bytes at 0 (omega arith) ∙ and_from _ _ c.loop-len.invariant.digits is;
    }
