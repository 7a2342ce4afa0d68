use Rattle.trace_export.proofs.LoadedEvents.{loaded_is_export}
use Rattle.trace_export.proofs.laws.loaded.Goals as goal

pub returns : goal.returns
returns c = loaded_is_export
