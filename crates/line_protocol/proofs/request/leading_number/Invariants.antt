use Rattle.std.proofs.Common.{◌≡◌, ◌^◌, ◌≤◌, ◌<◌, ◌-◌, true, length, take}
use Rattle.std.specs.List.{list_all}
use Rattle.trace_types.specs.text.Reading.{is_digit, number_onto}
use Rattle.line_protocol.proofs.request.leading_number.Given as goal

abbrev pub invariant-loop-len : goal.invariant-loop-len
invariant-loop-len l = record {
  within : l.len ≤ length l.bytes;
  few : l.len ≤ 9;
  value : l.number ≡ number_onto 0 (take l.len l.bytes);
  small : l.number < 10 ^ l.len;
  digits : list_all is_digit (take l.len l.bytes) ≡ true;
}

abbrev pub decreases-loop-len : goal.decreases-loop-len
decreases-loop-len l = 9 - l.len
