-- What is told of each event.
use Rattle.std.specs.Prelude.{ℕ, suc, ◌==◌, if◌then◌else◌, List, [], ◌∷◌, ◌++◌, length}
use Rattle.trace_types.specs.tenant.Rows.{History, start_event}
use Rattle.trace_types.specs.clock.Clock.{tree_clock}
use Rattle.trace_types.specs.clock.Stamps.{stamp_of}
use Rattle.trace_types.specs.clock.Id.{Id}

-- what is told of each event, in the order of the events
abbrev pub of_each : {A : Type 0} → (History → ℕ → A) → History → List A
of_each told [] = []
of_each told (row ∷ earlier) = of_each told earlier ++ told (row ∷ earlier) (suc (length earlier)) ∷ []

-- the id of an event's task after it
abbrev pub id_after : History → ℕ → Id
id_after history event = (stamp_of tree_clock history event).0

-- the event that started the task of the event, or 0
abbrev pub start_of : History → ℕ → ℕ
start_of [] event = 0
start_of (row ∷ earlier) event = if event == suc (length earlier) then start_event (row ∷ earlier) row.task else start_of earlier event
