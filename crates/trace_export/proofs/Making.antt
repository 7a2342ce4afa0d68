-- The request of a listed event was made: what is known of it, by its reply.
use Rattle.std.proofs.Common.{◌≡◌, ◌≢◌, ℕ, suc, ◌-◌, ◌<◌, ◌≤◌, List, [], ◌∷◌, ◌++◌, length, Some, ap, subst, ◌∙◌, arith, length-append}
use Rattle.std.specs.List.{slice_get}
use Rattle.std.proofs.lemmas.Option.{slice_get-get_or}
use Rattle.std.proofs.Math.Seq.{get_or-append_seam}
use Rattle.trace_types.specs.tenant.Tenant.{Tenant, Steps}
use Rattle.trace_types.specs.declared.code.Code.{Code}
use Rattle.trace_types.specs.declared.code.Code.TheVariants.{NoMemory}
use Rattle.trace_types.specs.declared.reply.Reply.{Reply}
use Rattle.trace_types.specs.declared.reply.Reply.TheVariants as reply
use Rattle.trace_types.specs.declared.request.Request.{Request}
use Rattle.trace_types.specs.declared.row.Row.{Row}
use Rattle.trace_export.specs.Listing.{Listed}
use Rattle.trace_export.specs.Loading.{IsAsListed, IsUnfitAfter, MayFollow, listed_request}
use Rattle.trace_export.specs.Rebuilding.{IsMade}
use Rattle.trace_export.specs.declared.reason.Reason.TheVariants.{NotDue, Refused}
use Rattle.trace_export.specs.declared.follower.Follower.{Follower}
use Rattle.trace_export.proofs.Remaking.{AddsOne, accepted_adds, refused_why}

-- the step of the listed request, with what it was answered
pub steps_as : (tenant new : Tenant) (made : Request) (listed : Listed) (answer told : Reply) → made ≡ listed_request listed → answer ≡ told → Steps tenant made answer new
    → Steps tenant (listed_request listed) told new
steps_as tenant new made listed answer told is same steps =
    subst (λ (found : Reply). Steps tenant (listed_request listed) found new) same (subst (λ (request : Request). Steps tenant request answer new) is steps)

-- the row of the last event
last_row : (rows : List Row) (row : Row) → slice_get (rows ++ row ∷ []) (suc (length rows) - 1) ≡ Some row
last_row rows row =
    let place : suc (length rows) - 1 ≡ length rows = omega arith in
    ap (slice_get (rows ++ row ∷ [])) place
    ∙ slice_get-get_or (rows ++ row ∷ []) (length rows) row (omega (arith, length-append rows (row ∷ [])))
    ∙ ap Some (get_or-append_seam rows row [] row)

-- what is known of the event of this number and its row
abbrev OfEvent : (List Row → ℕ → Row → Type 0) → List Row → ℕ → Type 0
OfEvent P rows event = (row : Row) → slice_get rows (event - 1) ≡ Some row → P rows event row

-- it is known of the row that was added
of_added : (P : List Row → ℕ → Row → Type 0) (rows : List Row) (row : Row) (after : List Row) (event : ℕ) → after ≡ rows ++ row ∷ [] → event ≡ suc (length rows) → OfEvent P after event
    → P (rows ++ row ∷ []) (suc (length rows)) row
of_added P rows row after event leaves counted known =
    let added : OfEvent P (rows ++ row ∷ []) (suc (length rows)) =
    subst (λ count. OfEvent P (rows ++ row ∷ []) count) counted (subst (λ these. OfEvent P these event) leaves known) in
    added row (last_row rows row)

module _ (tenant : Tenant) (listed : Listed) (count : ℕ) (new : Tenant) (steps : Steps tenant (listed_request listed) (reply.Accepted count) new) where
  abbrev adds : AddsOne tenant listed.kind listed.task listed.name count new
  adds = accepted_adds tenant listed.kind listed.task listed.name count new steps

  abbrev leaves_rows : new.rows ≡ tenant.rows ++ adds.row ∷ []
  leaves_rows = ap (λ (found : Tenant). found.rows) adds.leaves

  -- it is an event
  pub event_made : (0 < count) × (count ≤ length new.rows)
  event_made = (omega (arith, adds.counted), omega (arith, adds.counted, ap length leaves_rows, length-append tenant.rows (adds.row ∷ [])))

  due_or : (P : List Row → ℕ → Row → Type 0) → OfEvent P new.rows count → P (tenant.rows ++ adds.row ∷ []) (suc (length tenant.rows)) adds.row
  due_or P known = of_added P tenant.rows adds.row new.rows count leaves_rows adds.counted known

  -- and listed otherwise
  pub not_due : MayFollow tenant.rows listed → OfEvent (λ rows event row. ¬ IsAsListed rows event row listed) new.rows count → IsUnfitAfter NotDue tenant.limits tenant.rows listed
  not_due may otherwise = (may, (adds.row, adds.makes, due_or (λ rows event row. ¬ IsAsListed rows event row listed) otherwise))

-- it is the one that is listed
pub made_next : (old now : Follower) (listed : Listed) (count : ℕ) (new : Tenant) → MayFollow old.ledger.rows listed → Steps old.ledger (listed_request listed) (reply.Accepted count) new
    → OfEvent (λ rows event row. IsAsListed rows event row listed) new.rows count → now.ledger ≡ new → now.header ≡ old.header → IsMade old now listed
made_next old now listed count new may steps as_listed same header =
    let added = adds old.ledger listed count new steps in
    record {
      row = added.row;
      due = record {
        may = may;
        makes = added.makes;
        due = due_or old.ledger listed count new steps (λ rows event row. IsAsListed rows event row listed) as_listed;
      };
      more = record { ledger = same ∙ added.leaves; header = header };
    }

-- it was refused
pub refused_next : (tenant : Tenant) (listed : Listed) (code : Code) (new : Tenant) → MayFollow tenant.rows listed → Steps tenant (listed_request listed) (reply.Refused code) new → code ≢ NoMemory
    → IsUnfitAfter Refused tenant.limits tenant.rows listed
refused_next tenant listed code new may steps other = (may, refused_why tenant listed.kind listed.task listed.name code new other steps)
