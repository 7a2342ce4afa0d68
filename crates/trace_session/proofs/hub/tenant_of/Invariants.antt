use Rattle.std.proofs.Common.{◌≡◌, drop}
use Rattle.std.specs.Prelude.{Option}
use Rattle.trace_session.specs.Hubs.{Owner, tenant_named}
use Rattle.trace_session.proofs.hub.tenant_of.Given as goal

-- what was looked at has another name
abbrev pub invariant-loop-tenant : goal.invariant-loop-tenant
invariant-loop-tenant l = ◌≡◌ {A = Option Owner} (tenant_named l.name l.tenants) (tenant_named l.name (drop l.tenant-index l.tenants))
