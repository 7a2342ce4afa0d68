-- A line that is the one that is due to a tenant is right, and the tenant has its row.
use Rattle.std.proofs.Common.{◌≡◌, [], ◌∷◌, ◌++◌, length, inr, Option, sym, ap, subst, ◌∙◌, arith, length-append}
use Rattle.std.proofs.lemmas.List.{reverse-append}
use Rattle.trace_types.specs.tenant.Rows.{history_of}
use Rattle.trace_types.specs.tenant.Tenant.{Tenant, AreLegal}
use Rattle.trace_types.specs.text.Name.{Text}
use Rattle.tenant_ledger.specs.Legal.{IsLegal}
use Rattle.tenant_ledger.proofs.clock.Legality.{IsLegal_from_AreLegal}
use Rattle.trace_export.specs.Checked.{IsFollowing, IsRightAfter}
use Rattle.trace_export.specs.Edges.{Placing}
use Rattle.trace_export.specs.Following.{IsFollowed, placed_of, placing_of}
use Rattle.trace_export.specs.Loading.{limits_under}
use Rattle.trace_export.specs.Rebuilding.{IsEventMade, IsLineMade}
use Rattle.trace_export.specs.Verdict.{IsRightNext}
use Rattle.trace_export.specs.declared.checked.Checked.TheVariants.{Due}
use Rattle.trace_export.specs.declared.follower.Follower.{Follower}
use Rattle.trace_export.specs.declared.graph.Graph.{Graph}
use Rattle.trace_export.specs.declared.header.Header.{Header}
use Rattle.trace_export.proofs.Headings.{event_is_no_header}
use Rattle.trace_export.proofs.LegalRows.{AreSound, legal_rows_are_sound}
use Rattle.trace_export.proofs.LoadedEvents.{right_next}

module _ (old new : Tenant) (line : Text) (followed : IsFollowed old new line) (legal : AreLegal new.limits new.rows) where
  rows_are : new.rows ≡ old.rows ++ followed.row ∷ []
  rows_are = ap (λ (tenant : Tenant). tenant.rows) followed.leaves

  history_is : history_of new.rows ≡ followed.row ∷ history_of old.rows
  history_is = ap history_of rows_are ∙ reverse-append old.rows (followed.row ∷ [])

  -- the line is right
  pub followed_right : IsRightNext (placing_of (history_of old.rows)) line (placed_of followed.row (history_of old.rows))
  followed_right =
      right_next old.limits old.rows line followed.row followed.loaded (subst IsLegal history_is (IsLegal_from_AreLegal new.limits new.rows legal))
      (subst AreSound history_is (legal_rows_are_sound new.limits new.rows legal))

  -- its event is the tenant's last one
  pub placing_grown : placing_of (history_of new.rows) ≡ placing_of (history_of old.rows) ++ placed_of followed.row (history_of old.rows) ∷ []
  placing_grown = ap placing_of history_is

-- a line that was due is that of an event
pub event_made : (old new : Follower) (line : Text) → IsLineMade old new line → IsEventMade old new line
event_made old new line made = record { no_header = λ headless none. event_is_no_header line made.loaded.listed made.loaded.listing.1; made = made }

-- and a check keeps it
pub kept_if_due : (old new : Follower) (graph : Graph) (line : Text) → IsFollowing old graph → IsEventMade old new line → AreLegal new.ledger.limits new.ledger.rows
    → IsRightAfter old.header (placing_of (history_of old.ledger.rows)) line (Due new graph)
kept_if_due old new graph line following event legal =
    let made = event.made in
    let followed : IsFollowed old.ledger new.ledger line = record { row = made.row; loaded = made.loaded; leaves = made.more.ledger } in
    inr (record {
      placed = placed_of made.row (history_of old.ledger.rows);
      no_header = λ headless none. event_is_no_header line made.loaded.listed made.loaded.listing.1;
      same = made.more.header;
      right = followed_right old.ledger new.ledger line followed legal;
      more = placing_grown old.ledger new.ledger line followed legal;
      kept = record {
        limits = ap (λ (tenant : Tenant). tenant.limits) made.more.ledger ∙ following.limits ∙ ap limits_under (sym made.more.header);
        few = omega (arith, ap (λ (tenant : Tenant). length tenant.rows) made.more.ledger, length-append old.ledger.rows (made.row ∷ []), made.loaded.due.may.1.number.1);
        none = following.none;
        kept = following.kept;
      };
    })

-- what holds behind the lines that are listed of a tenant holds behind those that led to it
pub holds_listed : (P : Option Header → Placing → Type 0) (old new : Follower) (placing : Placing) → new ≡ old → placing ≡ placing_of (history_of new.ledger.rows) → P new.header placing
    → P old.header (placing_of (history_of old.ledger.rows))
holds_listed P old new placing same lists known = subst (λ (found : Follower). P found.header (placing_of (history_of found.ledger.rows))) same (subst (P new.header) lists known)
