-- A tenant with a report that will be accepted.
use Rattle.trace_types.specs.tenant.Tenant.{Tenant}
use Rattle.trace_types.specs.declared.row.Row.{Row}

-- the tenant before the report, and the row of the report
pub record Upcoming : Type 0 where
  pub tenant : Tenant
  pub row : Row
