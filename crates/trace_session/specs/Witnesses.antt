-- What shows with which rows a session was held.
use Rattle.std.specs.Prelude.{◌≡◌, Option, IsSomeAnd}
use Rattle.trace_types.specs.tenant.Tenant.{Tenant}
use Rattle.tenant_desk.specs.Histories.{Line, Log}

-- the rows with which a session began, those which it left, and which log has reached them
pub record Witness : Type 0 where
  pub began : Line
  pub ended : Line

-- what is told of a desk or a view: the rows that it knows of, and its log
abbrev pub told_of : {S : Type 0} → (S → Tenant) → (S → Log) → S → Line
told_of tenant_of log_of lent = record { rows = (tenant_of lent).rows; log = log_of lent }

-- There is a witness of what was lent and of what was left of it.
abbrev pub IsWitnessed : {S : Type 0} → (S → Tenant) → (S → Log) → S → S → Option Witness → Type 0
IsWitnessed tenant_of log_of lent left witness =
    IsSomeAnd witness (λ one. (one.began ≡ told_of tenant_of log_of lent) × (one.ended ≡ told_of tenant_of log_of left))
