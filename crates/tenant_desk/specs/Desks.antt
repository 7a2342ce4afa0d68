-- What a tenant's desk is.
use Rattle.std.specs.Prelude.{ℕ, List}
use Rattle.trace_types.specs.tenant.Tenant.{Tenant}
use Rattle.trace_types.specs.declared.row.Row.{Row}
use Rattle.tenant_desk.specs.Histories.{Log}

-- the tenant, the rows of its log that are published, and that log
pub record Desk : Type 0 where
  pub tenant : Tenant
  pub published : List Row
  pub log : Log
  -- where its share keeps trees
  pub home : List ℕ
