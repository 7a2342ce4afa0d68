use Rattle.std.proofs.Common.{◌≡◌, true, length, map, string_bytes, take}
use Rattle.std.specs.List.{list_all}
use Rattle.trace_types.specs.text.Name.{is_name}
use Rattle.trace_types.proofs.tenant_names.TenantNames.read.Given as goal

-- the names of the texts that were looked at
abbrev pub invariant-loop-place : goal.invariant-loop-place
invariant-loop-place l =
    (take l.place l.names ≡ map string_bytes (take l.place l.texts)) × (length l.names ≡ 16) × (list_all is_name (map string_bytes (take l.place l.texts)) ≡ true)
