-- The numbers of the reasons why a line is faulty.
use Rattle.std.specs.Prelude.{ℕ}
use Rattle.trace_export.specs.declared.reason.Reason.{Reason}
use Rattle.trace_export.specs.declared.reason.Reason.TheVariants.{NoJson, NoEvent, Number, Preds, Stamp, Order, Refused, NotDue}

abbrev pub reason_number : Reason → ℕ
reason_number NoJson = 1
reason_number NoEvent = 2
reason_number Number = 3
reason_number Preds = 4
reason_number Stamp = 5
reason_number Order = 6
reason_number Refused = 7
reason_number NotDue = 8
