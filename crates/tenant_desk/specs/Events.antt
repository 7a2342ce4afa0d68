-- What is published of a tenant's events.
use Rattle.std.specs.Prelude.{ℕ, List}
use Rattle.trace_types.specs.tenant.Limits.{Limits}
use Rattle.tenant_ledger.specs.Ledger.{Contents, new_book}
use Rattle.tenant_desk.specs.Histories.{Line}

-- What is kept of the tenant, however many more there is room for, and how far its rows go in its log.
pub record Published : Type 0 where
  pub events : Contents
  pub front : Line

-- none yet, and the id of `root`
abbrev pub no_events : List ℕ → Limits → Contents
no_events home limits = new_book home limits 1
