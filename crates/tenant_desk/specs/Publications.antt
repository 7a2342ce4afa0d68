-- What a desk publishes, and how an operation changes it.
use Rattle.std.specs.Prelude.{◌≡◌, Option, Some, None}
use Rattle.tenant_ledger.specs.Ledger.{Contents, Event, with_event}
use Rattle.tenant_desk.specs.Events.{Published}
use Rattle.tenant_desk.specs.Histories.{longer_by}
use Rattle.tenant_desk.specs.Rules.{Continues, IsPublished, sight_of}
use Rattle.tenant_desk.specs.declared.publishing_rule.Sight.{Sight}
use Rattle.tenant_desk.specs.declared.published.Operation.{Operation}

-- the events with that of an operation, where it has one
abbrev pub with_some : Option Event → Contents → Contents
with_some None events = events
with_some (Some event) events = with_event event events

-- what is published after an operation: the events with its own, and how far its front goes
abbrev pub left_by : Published → Operation → Published
left_by published operation = record { events = with_some operation.event published.events; front = operation.front }

-- what is published with one more event
abbrev pub with_next : Event → Published → Published
with_next event published = record { events = with_some (Some event) published.events; front = longer_by event.row published.front }

-- What the operation makes of what is published may be published after it.
pub record IsFor (published : Published) (operation : Operation) : Type 0 where
  pub sound : IsPublished (left_by published operation)
  pub continues : Continues published (left_by published operation)

-- What is shown is as published values are, and the writer knows of it.
pub record IsShown (shown : Published) (known : Option Sight) : Type 0 where
  pub sound : IsPublished shown
  pub seen : known ≡ Some (sight_of shown)
