-- The step that adds a row to a log keeps the number of its rows stored.
use Rattle.std.proofs.Common.{◌≡◌, ℕ, ◌+◌, ◌<◌, ◌==◌, Bool, true, false, List, [], ◌∷◌, ◌++◌, length, refl, ap, sym, subst, ◌∙◌, arith, inl, length-append, None}
use Rattle.std.proofs.lemmas.List.{append-nil}
use Rattle.std.proofs.lemmas.Bool.Decides.{nat_tests}
use mathlib.Core.List.{IsPrefix}
use prog.Atomic.{either}
use Rattle.logbook.specs.Pages.{Cell, cell, keeps, no_nib, step, Moves, Goes}
use Rattle.trace_types.specs.declared.row.Row.{Row}
use Rattle.tenant_desk.specs.Histories.{IsCounted, Adds, rows_in}
use Rattle.tenant_desk.specs.declared.row_log.Entry.{Entry}
use Rattle.tenant_desk.specs.declared.row_log.Entry.TheVariants as entry
use Rattle.tenant_desk.proofs.Beginnings.{is_all}
use Rattle.tenant_desk.proofs.Entries.{rows_begin, rows_in-append}

-- nothing of the log is shown, and what is shown may move
abbrev shown : List Entry → List Entry
shown entries = []

abbrev moved : List Entry → List Entry → ℕ → Type 0
moved before after answer = Unit {0}

module _ (known : List Entry) (row : Row) (count : ℕ) (counted : count ≡ length (rows_in known)) where
  -- whether the log has no row behind those that are known
  adds : (entries : List Entry) → IsPrefix known entries → (is_last : Bool) → (length (rows_in entries) == count) ≡ is_last
      → Goes IsCounted shown moved 0 (known, (no_nib, None)) (λ n. either (n == count) (count + 1) n)
      (Adds (step 0 count (count + 1) (entry.Row row)) (known, (no_nib, None))) ((length (rows_in entries), true) ∷ []) entries
  adds entries begins true is =
      let here : length (rows_in entries) ≡ count = grind (arith, nat_tests) in
      let same : rows_in known ≡ rows_in entries = is_all (rows_in known) (rows_in entries) (rows_begin known entries begins) (omega arith) in
      let more = rows_in-append entries (entry.Row row ∷ []) in
      let longer : count + 1 ≡ length (rows_in (entries ++ entry.Row row ∷ [])) = omega (arith, ap length more, length-append (rows_in entries) (row ∷ [])) in
      let stored : either (length (rows_in entries) == count) (count + 1) (length (rows_in entries)) ≡ length (rows_in (entries ++ entry.Row row ∷ [])) = rw is longer in (
        keeps,
        entry.Row row ∷ [],
        None,
        tt,
        ap (λ (n : ℕ). (n, true) ∷ []) stored,
        inl (refl, refl),
        rw is (more ∙ ap (λ (rows : List Row). rows ++ row ∷ []) (sym same)),
      )
  adds entries begins false is =
      let all : entries ++ [] ≡ entries = append-nil entries in
      let stored : either (length (rows_in entries) == count) (count + 1) (length (rows_in entries)) ≡ length (rows_in (entries ++ [])) =
      rw is (ap (λ (list : List Entry). length (rows_in list)) (sym all)) in (
        keeps,
        [],
        None,
        tt,
        ap (λ (n : ℕ). (n, true) ∷ []) stored,
        inl (refl, refl),
        rw is tt,
      )

  -- so the step may be done, whatever the log has
  pub may_add : Moves IsCounted shown moved 0 (known, (no_nib, None)) (λ n. either (n == count) (count + 1) n)
      (Adds (step 0 count (count + 1) (entry.Row row)) (known, (no_nib, None)))
  may_add cells entries counted_by begins away =
      subst (λ (found : List Cell). (0 < length found) × ((cell found 0).1 ≡ true)
      × Goes IsCounted shown moved 0 (known, (no_nib, None)) (λ n. either (n == count) (count + 1) n)
      (Adds (step 0 count (count + 1) (entry.Row row)) (known, (no_nib, None))) found entries)
      (sym counted_by) (omega arith, refl, adds entries begins (length (rows_in entries) == count) refl)
