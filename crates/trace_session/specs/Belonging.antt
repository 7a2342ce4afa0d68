-- What belongs to a tenant.
use Rattle.std.specs.Prelude.{◌≡◌, IfSome, All}
use Rattle.trace_types.specs.tenant.Tenant.{Tenant}
use Rattle.tenant_desk.specs.Desks.{Desk}
use Rattle.tenant_desk.specs.Histories.{Log}
use Rattle.tenant_desk.specs.Views.{Known}
use Rattle.trace_session.specs.Hubs.{Owner}
use Rattle.trace_session.specs.Lent.{IsSoundDesk, IsSoundView, tenant_seen}
use Rattle.trace_session.specs.Resting.{Rests}

-- It is sound, its rows stand in this tenant's log, and it has this tenant's limits.
pub record Belongs {A : Type 0} (IsSound : A → Type 0) (tenant_of : A → Tenant) (log_of : A → Log) (owner : Owner) (lent : A) : Type 0 where
  pub sound : IsSound lent
  pub limits : (tenant_of lent).limits ≡ owner.limits
  pub log : log_of lent ≡ owner.log

-- the same of a desk
abbrev pub IsDeskOf : Owner → Desk → Type 0
IsDeskOf owner desk = Belongs IsSoundDesk (λ one. one.tenant) (λ one. one.log) owner desk

-- and of a view
abbrev pub IsViewOf : Owner → Known → Type 0
IsViewOf owner view = Belongs IsSoundView tenant_seen (λ one. one.log) owner view

-- All that rests belongs to this tenant.
pub record RestOf (owner : Owner) (rests : Rests) : Type 0 where
  pub desk : IfSome rests.desk (IsDeskOf owner)
  pub views : All (IsViewOf owner) rests.views
