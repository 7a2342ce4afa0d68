-- The entries of a log: its tenant, and its rows.
use Rattle.std.proofs.Common.{◌≡◌, List, [], ◌∷◌, ◌++◌, refl, ap, sym, subst, ◌∙◌}
use mathlib.Core.List.{IsPrefix}
use Rattle.trace_types.specs.declared.row.Row.{Row}
use Rattle.tenant_desk.specs.Histories.{IsNamed, rows_in, tenant_in}
use Rattle.tenant_desk.specs.declared.row_log.Entry.{Entry}
use Rattle.tenant_desk.specs.declared.row_log.Entry.TheVariants as entry

-- more entries add their rows
pub rows_in-append : (entries more : List Entry) → rows_in (entries ++ more) ≡ rows_in entries ++ rows_in more
rows_in-append [] more = refl
rows_in-append (entry.Tenant name ∷ entries) more = rows_in-append entries more
rows_in-append (entry.Row row ∷ entries) more = ap (λ (rows : List Row). row ∷ rows) (rows_in-append entries more)

-- the rows of a log begin with those that it had before
pub rows_begin : (entries more : List Entry) → IsPrefix entries more → IsPrefix (rows_in entries) (rows_in more)
rows_begin entries more begins = (rows_in begins.0, sym (rows_in-append entries begins.0) ∙ ap rows_in begins.1)

-- and it is of the tenant of which it was
pub tenant_stays : (entries more : List Entry) → IsNamed entries → IsPrefix entries more → (tenant_in more ≡ tenant_in entries) × IsNamed more
tenant_stays [] more named begins = absurd named
tenant_stays (entry.Tenant name ∷ entries) more named begins = subst (λ (all : List Entry). (tenant_in all ≡ name) × IsNamed all) begins.1 (refl, tt)
tenant_stays (entry.Row row ∷ entries) more named begins = absurd named
