-- What rests of one tenant.
use Rattle.std.specs.Prelude.{◌≡◌, List, [], Option, IsSomeAnd, All, length}
use Rattle.trace_types.specs.tenant.Limits.{Limits}
use Rattle.trace_types.specs.tenant.Tenant.{fresh}
use Rattle.tenant_desk.specs.Desks.{Desk}
use Rattle.tenant_desk.specs.Histories.{Log}
use Rattle.tenant_desk.specs.Views.{Known, new_view}

-- the desk of the tenant, if no session has it, and the views that none has, the one that is lent next behind all others
pub record Rests : Type 0 where
  pub desk : Option Desk
  pub views : List Known

-- a new desk: it has no rows, these limits, and this log
pub record IsNewDesk (limits : Limits) (whose : Log) (desk : Desk) : Type 0 where
  pub tenant : desk.tenant ≡ fresh limits
  pub published : desk.published ≡ []
  pub log : desk.log ≡ whose

-- What rests is a new desk of this log, and eight views of that desk, which have seen nothing.
pub record IsWhole (limits : Limits) (log : Log) (rests : Rests) : Type 0 where
  pub desk : IsSomeAnd rests.desk (IsNewDesk limits log)
  pub count : length rests.views ≡ 8
  pub views : All (λ view. view ≡ new_view limits log) rests.views
