-- The tenant to which the lines of an export lead, as long as each of them is the one that is due to it.
use Rattle.std.specs.Prelude.{◌≡◌, ℕ, suc, List, [], ◌∷◌, ◌++◌, length}
use Rattle.trace_types.specs.clock.Clock.{tree_clock}
use Rattle.trace_types.specs.clock.Stamps.{id_of, tree_of}
use Rattle.trace_types.specs.tenant.Rows.{History, history_of}
use Rattle.trace_types.specs.tenant.Tenant.{Tenant}
use Rattle.trace_types.specs.text.Name.{Text}
use Rattle.trace_types.specs.declared.row.Row.{Row}
use Rattle.trace_export.specs.DueLine.{due_line}
use Rattle.trace_export.specs.Edges.{Placing}
use Rattle.trace_export.specs.Loading.{IsLoadedNext, tenant_with}
use Rattle.trace_export.specs.declared.placed.Placed.{Placed}

-- what is listed of the event that the row adds
abbrev pub placed_of : Row → History → Placed
placed_of row earlier = record { preds = row.preds; tree = tree_of tree_clock (row ∷ earlier) (suc (length earlier)) }

-- what is listed of all events
abbrev pub placing_of : History → Placing
placing_of [] = []
placing_of (row ∷ earlier) = placing_of earlier ++ placed_of row earlier ∷ []

-- the line that an export has of the event of this number, whose row comes next after these
abbrev pub line_of_next : ℕ → List Row → Row → Text
line_of_next number rows row =
    due_line number row (id_of tree_clock (row ∷ history_of rows) row.task) (tree_of tree_clock (row ∷ history_of rows) (suc (length rows)))

-- The line is the one that is due after the tenant's rows, and then the tenant has its row too.
pub record IsFollowed (old new : Tenant) (line : Text) : Type 0 where
  pub row : Row
  pub loaded : IsLoadedNext old.limits old.rows line row
  pub leaves : new ≡ tenant_with old.limits (old.rows ++ row ∷ [])
