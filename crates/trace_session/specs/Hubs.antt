-- What a hub is.
use Rattle.std.specs.Prelude.{◌≡◌, List, [], ◌∷◌, Option, Some, None, All, map, if◌then◌else◌}
use Rattle.trace_types.specs.tenant.Limits.{Limits}
use Rattle.trace_types.specs.text.Name.{Text, is_same}
use Rattle.tenant_desk.specs.Histories.{Log}

-- a tenant: its name, its limits, and the log in which the rows of its desk and of its views stand
pub record Owner : Type 0 where
  pub name : Text
  pub limits : Limits
  pub log : Log

-- a hub: its tenants
abbrev pub Hub : Type 0
Hub = List Owner

-- The hub has tenants of these names, each with these limits by itself, and each with a log that names this tenant.
pub record IsHubOf (names : List Text) (limits : Limits) (hub : Hub) : Type 0 where
  pub named : map (λ (tenant : Owner). tenant.name) hub ≡ names
  pub limited : All (λ (tenant : Owner). tenant.limits ≡ limits) hub
  pub logged : All (λ (tenant : Owner). tenant.log.tenant ≡ tenant.name) hub

-- the tenant that has this name: the first, if there were several
abbrev pub tenant_named : Text → Hub → Option Owner
tenant_named name [] = None
tenant_named name (tenant ∷ others) = if is_same tenant.name name then Some tenant else tenant_named name others
