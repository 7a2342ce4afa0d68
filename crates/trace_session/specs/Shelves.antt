-- The rule of a shelf: a table with one word, which is 0 while what rests lies in its one slot.
use Rattle.std.specs.Prelude.{◌≡◌, ◌≢◌, ℕ, [], ◌∷◌, Option, Some, None, slice_index, length}
use mathlib.Core.Option.{some}
use lib.ListN.{get_elem?}
use Rattle.atomic_table.specs.Table.{State, Me}
use Rattle.trace_session.specs.Belonging.{RestOf}
use Rattle.trace_session.specs.Hubs.{Owner}
use Rattle.trace_session.specs.Resting.{Rests}

-- at 0, what rests is there, and belongs to this tenant
abbrev pub KeepsFor : Owner → State (Option Rests) Owner → Type 0
KeepsFor owner state = (length state.words ≡ 1)
    × (slice_index state.words 0 ≡ 0 → (rests : Rests) × (get_elem? state.homes 0 ≡ some (some (Some rests))) × RestOf owner rests)

-- the seat has the slot, with what rests, which belongs to this tenant
abbrev pub HasTaken : Owner → Me (Option Rests) Owner → Type 0
HasTaken owner me = (rests : Rests) × (me.1 ≡ (0, Some rests) ∷ []) × RestOf owner rests

-- what was there is taken at 0, and nothing else is taken
abbrev pub Takes : Owner → ℕ → Me (Option Rests) Owner → Type 0
Takes owner found me = (found ≡ 0 → HasTaken owner me) × (found ≢ 0 → me.1 ≡ [])

-- the seat has the slot, with nothing in it
abbrev pub HasEmpty : Me (Option Rests) Owner → Type 0
HasEmpty me = me.1 ≡ (0, None) ∷ []
