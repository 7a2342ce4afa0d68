-- The rule over what a desk publishes, and what each step of the desk and its views tells.
use Rattle.std.specs.Prelude.{◌≡◌, ℕ, ◌<◌, List, Option, Some, None}
use mathlib.Core.List.{IsPrefix}
use mathlib.Core.Option.{some}
use lib.ListN.{get_elem?}
use Rattle.trace_types.specs.tenant.Limits.{Limits}
use Rattle.trace_types.specs.declared.row.Row.{Row}
use Rattle.tenant_ledger.specs.Ledger.{IsKept}
use Rattle.tenant_desk.specs.Events.{Published}
use Rattle.tenant_desk.specs.Histories.{Log}
use Rattle.tenant_desk.specs.declared.publishing_rule.Sight.{Sight}

-- what is known once all that is published is seen
abbrev pub sight_of : Published → Sight
sight_of published = record { front = published.front; limits = published.events.limits }

-- what is known is of this desk
abbrev pub IsOfDesk : Log → Limits → Option Sight → Type 0
IsOfDesk log limits None = ⊥
IsOfDesk log limits (Some sight) = (sight.front.log ≡ log) × (sight.limits ≡ limits)

-- what is published is of the desk that is known, and begins with the rows that were seen
abbrev pub Fits : Published → Option Sight → Type 0
Fits published None = Unit {0}
Fits published (Some sight) =
    IsOfDesk published.front.log published.events.limits (Some sight) × IsPrefix sight.front.rows published.front.rows

-- what is kept is right, the id of `root` among it, and its rows are those of the log
pub record IsPublished (published : Published) : Type 0 where
  pub events : IsKept published.events
  pub seeded : 0 < published.events.kept_ids
  pub rows : published.front.rows ≡ published.events.rows

-- what is published is so, and fits what the desk and each view knows
abbrev pub Holds : Published → List (Option Sight) → Type 0
Holds published known =
    IsPublished published × ((place : ℕ) (sight : Option Sight) → get_elem? known place ≡ some sight → Fits published sight)

-- all that is published after the step is seen, and fits what was known before
abbrev pub Sees : Option Sight → Published → Published → Option Sight → Type 0
Sees known before after now = IsPublished after × (now ≡ Some (sight_of after)) × Fits after known

-- What is published next is of the same desk, and begins with what was.
pub record Continues (before after : Published) : Type 0 where
  pub of : IsOfDesk before.front.log before.events.limits (Some (sight_of after))
  pub begins : IsPrefix before.front.rows after.front.rows

-- what is known is of this log
abbrev pub IsOfLog : Log → Option Sight → Type 0
IsOfLog log None = ⊥
IsOfLog log (Some sight) = sight.front.log ≡ log

-- what is known is still of the desk of which it was
abbrev pub StaysOf : Option Sight → Option Sight → Type 0
StaysOf before now = (log : Log) (limits : Limits) → IsOfDesk log limits before → IsOfDesk log limits now

-- All that is published was entered and is seen, and it begins with these rows.
pub record HasEntered (before : Option Sight) (rows : List Row) (published : Published) (now : Option Sight) : Type 0 where
  pub sees : Sees before published published now
  pub begins : IsPrefix rows published.front.rows
