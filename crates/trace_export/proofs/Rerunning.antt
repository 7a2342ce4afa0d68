-- The requests of lines that are loaded, run again from nothing.
use Rattle.std.proofs.Common.{◌≡◌, ℕ, suc, ◌+◌, List, [], ◌∷◌, ◌++◌, length, map, refl, sym, ap, subst, ◌∙◌, arith, length-append, append_assoc}
use Rattle.std.specs.List.{All, AllByRecursion, range_with_len}
use Rattle.std.proofs.lemmas.List.{append-nil, reverse-append}
use Rattle.std.proofs.lemmas.List.Elements.{All-from_recursion}
use Rattle.trace_types.specs.tenant.Limits.{Limits}
use Rattle.trace_types.specs.tenant.Rows.{History, history_of}
use Rattle.trace_types.specs.tenant.Tenant.{Tenant, AreLegal, after, replies, row_after, step}
use Rattle.trace_types.specs.text.Name.{Text}
use Rattle.trace_types.specs.text.Text.{CanBeWritten}
use Rattle.trace_types.specs.declared.reply.Reply.{Reply}
use Rattle.trace_types.specs.declared.reply.Reply.TheVariants.{Accepted}
use Rattle.trace_types.specs.declared.row.Row.{Row}
use Rattle.trace_export.specs.Listing.{FitsKind, MayBeListed}
use Rattle.trace_export.specs.Loading.{AreLoadedAfter, IsLoadedNext, listed_request, row_request, tenant_with}
use Rattle.trace_export.specs.Loads.{RunsAnew}
use Rattle.trace_export.proofs.Remaking.{can_be_written, made_row}

-- the row has a name where its kind has one
abbrev pub HasItsName : Row → Type 0
HasItsName row = FitsKind row.kind row.name

-- what a line may list that is loaded
may_be_listed : {limits : Limits} {rows : List Row} {line : Text} {row : Row} → (next : IsLoadedNext limits rows line row) → MayBeListed next.listed
may_be_listed next = next.listing.1.2.may

-- its row has the words that are listed
pub row_listed : {limits : Limits} {rows : List Row} {line : Text} {row : Row} → (next : IsLoadedNext limits rows line row)
    → row ≡ row_after (history_of rows) next.listed.task next.listed.kind next.listed.name
row_listed {limits} {rows} {line} {row} next =
    made_row (tenant_with limits rows) next.listed.kind next.listed.task next.listed.name row (may_be_listed next).name next.due.makes

-- so its request is the one that is listed
request_listed : {limits : Limits} {rows : List Row} {line : Text} {row : Row} → (next : IsLoadedNext limits rows line row) → row_request row ≡ listed_request next.listed
request_listed next = ap row_request (row_listed next)

-- The requests of the rows behind the earlier ones, so many, are accepted one after another, and lead to the rows.
pub record RunsOn (limits : Limits) (earlier rows : List Row) (count : ℕ) : Type 0 where
  pub later : List Row
  pub grows : rows ≡ earlier ++ later
  pub counted : length later ≡ count
  pub named : AllByRecursion HasItsName later
  pub written : AllByRecursion CanBeWritten (map row_request later)
  pub accepted : replies (tenant_with limits earlier) (map row_request later) ≡ map Accepted (range_with_len (suc (length earlier)) (length later))
  pub leaves : after (tenant_with limits earlier) (map row_request later) ≡ tenant_with limits rows

abbrev replies_on : List Row → Reply × Tenant → List Reply
replies_on later done = done.0 ∷ replies done.1 (map row_request later)

abbrev after_on : List Row → Reply × Tenant → Tenant
after_on later done = after done.1 (map row_request later)

pub runs_on : (limits : Limits) (earlier : List Row) (lines : List Text) (rows : List Row) → AreLoadedAfter limits earlier lines rows → RunsOn limits earlier rows (length lines)
runs_on limits earlier [] rows loaded = record {
  later = [];
  grows = loaded ∙ sym (append-nil earlier);
  counted = refl;
  named = tt;
  written = tt;
  accepted = refl;
  leaves = ap (tenant_with limits) (sym loaded);
}
runs_on limits earlier (line ∷ lines) rows loaded =
    let row = loaded.0 in
    let next = loaded.1 in
    let rest = runs_on limits (earlier ++ row ∷ []) lines rows loaded.2 in
    let same = request_listed next in
    let steps = ap (step (tenant_with limits earlier)) same ∙ next.due.makes in
    let may = may_be_listed next in
    let number : suc (length (earlier ++ row ∷ [])) ≡ suc (length earlier) + 1 = omega (arith, length-append earlier (row ∷ [])) in
    record {
      later = row ∷ rest.later;
      grows = rest.grows ∙ append_assoc earlier (row ∷ []) rest.later;
      counted = ap suc rest.counted;
      named = (subst HasItsName (sym (row_listed next)) may.name, rest.named);
      written = (subst CanBeWritten (sym same) (can_be_written next.listed.kind next.listed.task next.listed.name may.task may.name), rest.written);
      accepted = ap (replies_on rest.later) steps
          ∙ ap (λ (others : List Reply). Accepted (suc (length earlier)) ∷ others) (rest.accepted ∙ ap (λ first. map Accepted (range_with_len first (length rest.later))) number);
      leaves = ap (after_on rest.later) steps ∙ rest.leaves;
    }

module _ (limits : Limits) (lines : List Text) (rows : List Row) (loaded : AreLoadedAfter limits [] lines rows) where
  abbrev runs : RunsOn limits [] rows (length lines)
  runs = runs_on limits [] lines rows loaded

  -- all of them are accepted, and leave the rows
  pub runs_anew : RunsAnew limits rows
  runs_anew = subst (RunsAnew limits) (sym runs.grows) (record { accepted = runs.accepted; leaves = runs.leaves ∙ ap (tenant_with limits) runs.grows })

  -- so the rows are legal
  pub loaded_are_legal : AreLegal limits rows
  loaded_are_legal = (map row_request runs.later, runs.written, ap (λ (tenant : Tenant). tenant.rows) runs.leaves)

  -- and have names where they should
  pub loaded_are_named : All HasItsName rows
  loaded_are_named = subst (All HasItsName) (sym runs.grows) (All-from_recursion HasItsName runs.later runs.named)

  -- there are as many as lines
  pub loaded_count : length rows ≡ length lines
  loaded_count = ap length runs.grows ∙ runs.counted

-- what holds of a history and so of the one before its newest row holds of the rows before the lines
pub holds_before : (P : History → Type 0) → ((row : Row) (history : History) → P (row ∷ history) → P history)
    → (limits : Limits) (earlier : List Row) (lines : List Text) (rows : List Row) → AreLoadedAfter limits earlier lines rows → P (history_of rows) → P (history_of earlier)
holds_before P fewer limits earlier [] rows loaded holds = subst (λ (these : List Row). P (history_of these)) loaded holds
holds_before P fewer limits earlier (line ∷ lines) rows loaded holds =
    fewer loaded.0 (history_of earlier)
    (subst P (reverse-append earlier (loaded.0 ∷ [])) (holds_before P fewer limits (earlier ++ loaded.0 ∷ []) lines rows loaded.2 holds))
