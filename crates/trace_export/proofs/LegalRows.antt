-- Legal rows are made of names, and list the events that they follow.
use Rattle.std.proofs.Common.{◌≡◌, true, List, [], ◌∷◌, Option, Some, None, refl, sym, subst}
use Rattle.std.specs.List.{AllByRecursion}
use Rattle.std.proofs.lemmas.List.{reverse-append}
use Rattle.trace_types.specs.text.Name.{is_name}
use Rattle.trace_types.specs.text.Text.{CanBeWritten}
use Rattle.trace_types.specs.tenant.Limits.{Limits}
use Rattle.trace_types.specs.tenant.Reachability.{predecessors}
use Rattle.trace_types.specs.tenant.Refusal.{refusal_of}
use Rattle.trace_types.specs.tenant.Rows.{History, history_of}
use Rattle.trace_types.specs.tenant.Tenant.{Tenant, fresh, with_row, answer_to, step_unless, step, after, AreLegal}
use Rattle.trace_types.specs.declared.code.Code.{Code}
use Rattle.trace_types.specs.declared.request.Request.{Request}
use Rattle.trace_types.specs.declared.request.Request.TheVariants.{Local, Spawn, Send, Recv, End, Join}
use Rattle.trace_types.specs.declared.row.Row.{Row}
use Rattle.trace_export.specs.Listing.{FitsKind}

-- The row is made of names, and lists what it follows of the rows before it.
pub record IsSound (row : Row) (earlier : History) : Type 0 where
  pub task : is_name row.task ≡ true
  pub name : FitsKind row.kind row.name
  pub preds : row.preds ≡ predecessors earlier row.task row.kind row.name

-- each row is
abbrev pub AreSound : History → Type 0
AreSound [] = Unit {0}
AreSound (row ∷ earlier) = IsSound row earlier × AreSound earlier

-- the new row is, if there is one
abbrev IsSoundNext : History → Option Row → Type 0
IsSoundNext history None = Unit {0}
IsSoundNext history (Some row) = IsSound row history

-- so is that of a request that can be written
sound_answer : (history : History) (request : Request) → CanBeWritten request → IsSoundNext history (answer_to history request).1
sound_answer history (Local task) can = record { task = can; name = refl; preds = refl }
sound_answer history (Spawn task child) can = record { task = can.0; name = (child, refl, can.1); preds = refl }
sound_answer history (Send task message) can = record { task = can.0; name = (message, refl, can.1); preds = refl }
sound_answer history (Recv task message) can = record { task = can.0; name = (message, refl, can.1); preds = refl }
sound_answer history (End task) can = record { task = can; name = refl; preds = refl }
sound_answer history (Join task child) can = record { task = can.0; name = (child, refl, can.1); preds = refl }
sound_answer history request can = tt

sound_after_step : (tenant : Tenant) (request : Request) → CanBeWritten request → AreSound (history_of tenant.rows) → AreSound (history_of (step tenant request).1.rows)
sound_after_step tenant request can sound = by (refusal_of tenant.limits (history_of tenant.rows) request)
  where
    next : (row : Option Row) → IsSoundNext (history_of tenant.rows) row → AreSound (history_of (with_row tenant row).rows)
    next None is = sound
    next (Some row) is = subst AreSound (sym (reverse-append tenant.rows (row ∷ []))) (is, sound)

    by : (refusal : Option Code) → AreSound (history_of (step_unless refusal tenant request).1.rows)
    by None = next (answer_to (history_of tenant.rows) request).1 (sound_answer (history_of tenant.rows) request can)
    by (Some code) = sound

sound_after : (tenant : Tenant) (requests : List Request) → AllByRecursion CanBeWritten requests → AreSound (history_of tenant.rows) → AreSound (history_of (after tenant requests).rows)
sound_after tenant [] can sound = sound
sound_after tenant (request ∷ requests) can sound = sound_after (step tenant request).1 requests can.1 (sound_after_step tenant request can.0 sound)

pub legal_rows_are_sound : (limits : Limits) (rows : List Row) → AreLegal limits rows → AreSound (history_of rows)
legal_rows_are_sound limits rows legal = subst (λ found. AreSound (history_of found)) legal.2 (sound_after (fresh limits) legal.0 legal.1 tt)
