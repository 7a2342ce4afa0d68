use Rattle.std.proofs.Common.{arith}
use Rattle.trace_export.proofs.Numbers.{first_is_no_number, second_is_no_number, too_many_numbers}
use Rattle.trace_export.proofs.event_line.read_preds.Goals as goal

pub returns-in_err-as_u64-in-len1 : goal.returns-in_err-as_u64-in-len1
returns-in_err-as_u64-in-len1 c = grind (arith, first_is_no_number)

pub returns-in_err-as_u64-in-len2 : goal.returns-in_err-as_u64-in-len2
returns-in_err-as_u64-in-len2 c = grind (arith, first_is_no_number)

pub returns-in_err-as_u64-in-len2-2 : goal.returns-in_err-as_u64-in-len2-2
returns-in_err-as_u64-in-len2-2 c = grind (arith, second_is_no_number)

pub returns-in_default : goal.returns-in_default
returns-in_default c = too_many_numbers _ c.in_default.len_at_least
