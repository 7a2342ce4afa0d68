-- How a call ended, as a log notes it.
use Rattle.std.specs.Prelude.{ℕ, Result, Ok, Err, ◌&&◌, ◌==◌, nat_lt, if◌then◌else◌}
use Rattle.line_protocol.specs.declared.stop.Stop.{Stop}
use Rattle.line_protocol.specs.declared.stop.Stop.TheVariants.{Interrupted, Failed}

abbrev pub stop_ending : Stop → ℕ
stop_ending Interrupted = 3
stop_ending Failed = 2

abbrev pub count_ending : Result ℕ Stop → ℕ → ℕ
count_ending (Ok n) room = if (n == 0) && nat_lt 0 room then 1 else 0
count_ending (Err stop) room = stop_ending stop

abbrev pub flush_stop_ending : Stop → ℕ
flush_stop_ending Interrupted = 5
flush_stop_ending Failed = 2

abbrev pub flush_ending : {A : Type 0} → Result A Stop → ℕ
flush_ending (Ok done) = 4
flush_ending (Err stop) = flush_stop_ending stop
