-- What a desk or a view that is lent to a session does.
use Rattle.std.specs.Prelude.{◌≡◌}
use Rattle.trace_types.specs.tenant.Tenant.{AreLegal, Steps, Tenant}
use Rattle.trace_types.specs.declared.request.Request.{Request}
use Rattle.trace_types.specs.declared.reply.Reply.{Reply}
use Rattle.tenant_desk.specs.Desks.{Desk}
use Rattle.tenant_desk.specs.Views.{Known, Responds}

-- A desk's rows are legal, and published.
pub record IsSoundDesk (desk : Desk) : Type 0 where
  pub legal : AreLegal desk.tenant.limits desk.tenant.rows
  pub published : desk.published ≡ desk.tenant.rows

-- The desk took the request as its tenant alone does, or want of memory was the answer where it may be. What it left is
-- sound.
pub record TakesRequest (old : Desk) (request : Request) (reply : Reply) (new : Desk) : Type 0 where
  pub steps : Steps old.tenant request reply new.tenant
  pub sound : IsSoundDesk new
  pub log : new.log ≡ old.log

-- What a view has seen is legal.
pub record IsSoundView (view : Known) : Type 0 where
  pub legal : AreLegal view.limits view.seen

-- The view was asked: it answered at the list that was published then, which begins with what it had seen, or refused.
pub record AsksView (old : Known) (request : Request) (reply : Reply) (new : Known) : Type 0 where
  pub responds : Responds old request reply new
  pub log : new.log ≡ old.log

-- a view's tenant, with the rows that it saw
abbrev pub tenant_seen : Known → Tenant
tenant_seen view = record { limits = view.limits; rows = view.seen }
