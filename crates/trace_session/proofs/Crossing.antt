-- A hub may be shared among threads. It is shown type by type, lowest first: a search that goes down through all of them runs
-- out of steps.
use denote.Param.Send.{IsSend, IsSync, recorded_sync, sendable, struct_sync, view_sync}
use denote.Struct.Declared.{shape}
use Rattle.std.proofs.Crossing.{crosses}
use Rattle.atomic_table.proofs.send_lease.SendLease.TheSendSync as lease
use Rattle.atomic_table.proofs.shared.Shared.TheSendSync as shared
use Rattle.tenant_desk.proofs.Crossing.{desk_send, view_send}
use Rattle.trace_session.proofs.owner.Owner.TheSendSync as owner
use Rattle.trace_session.specs.contracts.hub.Hub as Hub
use Rattle.trace_session.specs.contracts.shelf_contents.Resting as Resting
use Rattle.trace_session.specs.contracts.shelf.Shelf as Shelf
use Rattle.trace_session.specs.contracts.tenant.Tenant as Tenant
use Rattle.trace_session.specs.contracts.tenant.Tenant.TheInside as Inside

resting_send : IsSend Resting.the_row
resting_send = search (sendable, crosses, desk_send, view_send) depth 20

-- a shelf, as a field of a tenant
shelf_sync : IsSync Shelf.the_field.row
shelf_sync = search (sendable, crosses, shared.the_sync, lease.the_sync, resting_send) depth 20

tenant_sync : IsSync Tenant.the_row
tenant_sync =
    view_sync _ _ _ _ _
    (recorded_sync Inside.the_field.row Inside.the_field.Value Inside.the_field.into Inside.the_field.into_one (struct_sync (shape Inside.the_type) (owner.the_sync, (shelf_sync, tt))))

pub hub_sync : IsSync Hub.the_row
hub_sync = search (sendable, crosses, tenant_sync) depth 20
