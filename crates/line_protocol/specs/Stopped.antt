-- Why a call of the standard library stopped.
use Rattle.std.specs.Prelude.{◌≡◌, ◌≢◌, Result, Ok, Err}
use Rattle.std.specs.declared.io.Error.{Error}
use Rattle.std.specs.declared.io.ErrorKind.TheVariants as kind
use Rattle.std.specs.IoError.{error_kind}
use Rattle.line_protocol.specs.declared.stop.Stop.{Stop}
use Rattle.line_protocol.specs.declared.stop.Stop.TheVariants.{Interrupted, Failed}

-- An error of the kind Interrupted is an interruption, and any other is a failure.
abbrev pub StopsFor : Error → Stop → Type 0
StopsFor error Interrupted = error_kind error ≡ kind.Interrupted
StopsFor error Failed = error_kind error ≢ kind.Interrupted

-- The value stays, and an error is cut down to its reason.
abbrev pub StopsAs : {A : Type 0} → Result A Error → Result A Stop → Type 0
StopsAs (Ok value) (Ok other) = other ≡ value
StopsAs (Ok value) (Err stop) = ⊥
StopsAs (Err error) (Ok other) = ⊥
StopsAs (Err error) (Err stop) = StopsFor error stop
