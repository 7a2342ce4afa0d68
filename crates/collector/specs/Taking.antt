-- Which of the tenants that a replay or a service is asked for are taken.
use Rattle.std.specs.Prelude.{Bool, true, List, Option, Some, None, is_some, ◌&&◌}
use Rattle.command_line.specs.Demand.{Demand, ToReplay, ToServe, ToCheck, ToLoad}
use Rattle.trace_types.specs.text.Name.{Text, is_name}
use Rattle.trace_types.specs.world.Replay.{place_of}
use Rattle.trace_types.specs.world.TenantNames.{are_tenants}

-- whether the tenant to be exported, if any, is one of these
abbrev pub can_export : Option Text → List Text → Bool
can_export None tenants = true
can_export (Some name) tenants = is_some (place_of tenants name)

-- whether what is asked for is taken: a check always is
abbrev pub is_taken : Demand → Bool
is_taken (ToReplay asked) = are_tenants asked.tenants && can_export asked.export asked.tenants
is_taken (ToServe asked) = are_tenants asked.tenants
is_taken ToCheck = true
is_taken (ToLoad tenant) = is_name tenant
