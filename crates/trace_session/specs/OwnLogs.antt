-- Which sessions are held for which tenant.
use Rattle.std.specs.Prelude.{Result, Some}
use Rattle.trace_types.specs.text.Name.{Text}
use Rattle.trace_session.specs.Conversations.{Opens}
use Rattle.trace_session.specs.Hubs.{Hub}
use Rattle.trace_session.specs.State.{State}
use Rattle.trace_session.specs.Witnesses.{Witness}
use Rattle.trace_session.specs.declared.hub_session.Lending.{Lending}
use Rattle.trace_session.specs.declared.session_end.SessionEnd.{SessionEnd}
use Rattle.trace_session.specs.declared.session_end.SessionFault.{SessionFault}

-- A session on this hub, whose first line named this tenant, left this witness.
pub record IsWitnessOf (hub : Hub) (name : Text) (witness : Witness) : Type 0 where
  pub lending : Lending
  pub before : State
  pub after : State
  pub result : Result SessionEnd SessionFault
  pub opens : Opens hub (Some (record { lending = lending; tenant = name })) (Some witness) before after result
