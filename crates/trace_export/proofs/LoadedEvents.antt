-- Lines that are loaded list the rows that their requests make, and a check finds each of them right.
use Rattle.std.proofs.Common.{◌≡◌, ℕ, suc, ◌+◌, ◌-◌, ◌^◌, ◌<◌, ◌≤◌, eqb, List, [], ◌∷◌, ◌++◌, length, slice_index_or, Option, Some, inl, inr, refl, sym, ap, subst, ◌∙◌, arith, length-append, append_assoc}
use Rattle.std.proofs.lemmas.Bool.{cases_eq, cond-true, cond-false, eq-eqb, ne_eqb}
use Rattle.std.proofs.lemmas.List.{append-nil, get_or_append_left, get_or-append-add, length-reverse, reverse-append}
use Rattle.std.proofs.lemmas.Option.{same_Some}
use Rattle.trace_types.specs.clock.Clock.{tree_clock}
use Rattle.trace_types.specs.clock.EventTree.{EventTree, maximum}
use Rattle.trace_types.specs.clock.Id.{Id}
use Rattle.trace_types.specs.clock.Stamps.{stamp_of, stamp_text_of, tree_of}
use Rattle.trace_types.specs.tenant.Limits.{Limits}
use Rattle.trace_types.specs.tenant.Rows.{History, history_of, row_of}
use Rattle.trace_types.specs.text.Name.{Text}
use Rattle.trace_types.specs.text.StampText.{stamp_text}
use Rattle.trace_types.specs.declared.row.Kind.{Kind}
use Rattle.trace_types.specs.declared.row.Row.{Row}
use Rattle.tenant_ledger.specs.Legal.{IsLegal}
use Rattle.tenant_ledger.proofs.clock.Consequences.{maximum_of-le}
use Rattle.tenant_ledger.proofs.clock.Legality.{IsLegal_from_AreLegal}
use Rattle.tenant_ledger.proofs.keeping.Told.{stamp_knows}
use Rattle.trace_export.specs.Export.{listed_row}
use Rattle.trace_export.specs.Following.{placed_of, placing_of}
use Rattle.trace_export.specs.Laws.{event_line}
use Rattle.trace_export.specs.Listing.{Listed, ListsAs}
use Rattle.trace_export.specs.Loading.{AreLoadedAfter, IsLoaded, IsLoadedNext, limits_under}
use Rattle.trace_export.specs.Loads.{IsExportOfRun, ListEachEvent}
use Rattle.trace_export.specs.Verdict.{AreRightAfter, HasTree, IsNumbered, IsRightNext}
use Rattle.trace_export.specs.declared.loaded.Loaded.TheVariants.{Done}
use Rattle.trace_export.proofs.Connecting.{length-with_next}
use Rattle.trace_export.proofs.LegalRows.{AreSound, legal_rows_are_sound}
use Rattle.trace_export.proofs.Placings.{length-placing, ordered_alike}
use Rattle.trace_export.proofs.Rerunning.{holds_before, loaded_are_legal, loaded_count, row_listed, runs_anew}
use Rattle.trace_export.proofs.SpelledTrees.{spelled_tree}

-- ---- the newest event

-- the stamp's text of the event that the row adds
pub text_due : (rows : List Row) (row : Row) → stamp_text_of (history_of (rows ++ row ∷ [])) (suc (length rows)) ≡ stamp_text_of (row ∷ history_of rows) (suc (length (history_of rows)))
text_due rows row =
    ap (λ history. stamp_text_of history (suc (length rows))) (reverse-append rows (row ∷ []))
    ∙ ap (λ count. stamp_text_of (row ∷ history_of rows) (suc count)) (sym (length-reverse rows))

module _ (limits : Limits) (rows : List Row) (line : Text) (row : Row) (next : IsLoadedNext limits rows line row) where
  abbrev history : History
  history = row ∷ history_of rows

  abbrev number : ℕ
  number = suc (length (history_of rows))

  -- the listed text is that of the stamp
  text_listed : next.listed.stamp ≡ stamp_text (stamp_of tree_clock history number).0 (tree_of tree_clock history number)
  text_listed =
      sym next.due.due.1 ∙ text_due rows row ∙ ap (λ (tree : EventTree). stamp_text (stamp_of tree_clock history number).0 tree) (stamp_knows history number)

  tree_listed : IsLegal history → HasTree next.listed (tree_of tree_clock history number)
  tree_listed legal =
      let fits = next.due.may.1 in
      let least = maximum_of-le history legal number in
      let small : maximum (tree_of tree_clock history number) < 2 ^ 64 = omega (arith, least, fits.number.1, length-reverse rows) in
      spelled_tree next.listed.stamp (stamp_of tree_clock history number).0 (tree_of tree_clock history number) next.due.may.0.tree small text_listed fits.tree

  -- the line is right, with the event's tree
  pub right_next : IsLegal history → AreSound history → IsRightNext (placing_of (history_of rows)) line (placed_of row (history_of rows))
  right_next legal sound =
      let before = placing_of (history_of rows) in
      let fits = next.due.may.1 in
      let len : length before ≡ length rows = length-placing (history_of rows) ∙ length-reverse rows in
      let longer = length-with_next before (placed_of row (history_of rows)) in
      record {
        listed = next.listed;
        listing = next.listing;
        comes = record {
          number = subst (IsNumbered next.listed) (ap suc (sym len)) fits.number;
          preds = fits.preds;
          tree = tree_listed legal;
          edges = next.due.due.0;
        };
        ordered = λ other placed.
            ordered_alike history sound legal other (suc (length before)) (placed.0, omega (arith, placed.1, longer)) (omega arith, omega (arith, longer));
      }

-- ---- all events

right_all : (limits : Limits) (earlier : List Row) (these : List Text) (rows : List Row) → AreLoadedAfter limits earlier these rows → IsLegal (history_of rows) → AreSound (history_of rows)
    → AreRightAfter (placing_of (history_of earlier)) these (placing_of (history_of rows))
right_all limits earlier [] rows loaded legal sound = ap (λ (found : List Row). placing_of (history_of found)) loaded
right_all limits earlier (line ∷ rest) rows loaded legal sound =
    let row = loaded.0 in
    let new = reverse-append earlier (row ∷ []) in
    let now_legal = subst IsLegal new (holds_before IsLegal (λ first history known. known.1) limits (earlier ++ row ∷ []) rest rows loaded.2 legal) in
    let now_sound = subst AreSound new (holds_before AreSound (λ first history known. known.1) limits (earlier ++ row ∷ []) rest rows loaded.2 sound) in (
      placed_of row (history_of earlier),
      right_next limits earlier line row loaded.1 now_legal now_sound,
      subst (λ history. AreRightAfter (placing_of history) rest (placing_of (history_of rows))) new (right_all limits (earlier ++ row ∷ []) rest rows loaded.2 legal sound),
    )

-- ---- what each line lists

-- an older event has the stamp that it had before a row
stamp_text-older : (row : Row) (earlier : History) (event : ℕ) → event ≤ length earlier → stamp_text_of (row ∷ earlier) event ≡ stamp_text_of earlier event
stamp_text-older row earlier event old =
    ap (λ (stamp : Id × EventTree). stamp_text stamp.0 stamp.1) (cond-false (eqb event (suc (length earlier))) _ _ (ne_eqb event (suc (length earlier)) (λ is. omega (arith, is, old))))

pub row_of-newest : (row : Row) (earlier : History) (event : ℕ) → event ≡ suc (length earlier) → row_of (row ∷ earlier) event ≡ Some row
row_of-newest row earlier event is = cond-true (eqb event (suc (length earlier))) _ _ (eq-eqb event (suc (length earlier)) is)

pub row_of-older : (row : Row) (earlier : History) (event : ℕ) → ¬ (event ≡ suc (length earlier)) → row_of (row ∷ earlier) event ≡ row_of earlier event
row_of-older row earlier event other = cond-false (eqb event (suc (length earlier))) _ _ (ne_eqb event (suc (length earlier)) other)

-- an event that has a row is there
row_of-within : (history : History) (event : ℕ) (row : Row) → row_of history event ≡ Some row → (0 < event) × (event ≤ length history)
row_of-within [] event row is = absurd (cc)
row_of-within (newest ∷ earlier) event row is = elim (cases_eq event (suc (length earlier))) [
  | inl new ↦ (omega (arith, new), omega (arith, new))
  | inr other ↦
      let known = row_of-within earlier event row (sym (row_of-older newest earlier event other) ∙ is) in
      (known.0, omega (arith, known.1))
]

-- an event of these words is listed so
same_listed : (listed : Listed) (event : ℕ) (row : Row) (stamp : Text) → listed.event ≡ event → listed.kind ≡ row.kind → listed.name ≡ row.name → listed.preds ≡ row.preds → listed.stamp ≡ stamp → listed.task ≡ row.task
    → listed ≡ listed_row event row stamp
same_listed listed event row stamp of_event of_kind of_name of_preds of_stamp of_task =
    ap (λ (e : ℕ). record listed { event = e }) of_event
    ∙ ap (λ (k : Kind). record listed { event = event; kind = k }) of_kind
    ∙ ap (λ (n : Option Text). record listed { event = event; kind = row.kind; name = n }) of_name
    ∙ ap (λ (p : List ℕ). record listed { event = event; kind = row.kind; name = row.name; preds = p }) of_preds
    ∙ ap (λ (s : Text). record listed { event = event; kind = row.kind; name = row.name; preds = row.preds; stamp = s }) of_stamp
    ∙ ap (λ (t : Text). record listed { event = event; kind = row.kind; name = row.name; preds = row.preds; stamp = stamp; task = t }) of_task

-- So far each line lists the row of its event.
record ListsSoFar (these : List Text) (rows : List Row) : Type 0 where
  counted : length these ≡ length rows
  each : ListEachEvent these rows

lists_none : ListsSoFar [] []
lists_none = record { counted = refl; each = λ event row is. absurd (cc) }

module _ (limits : Limits) (before : List Text) (rows : List Row) (line : Text) (row : Row) (so_far : ListsSoFar before rows) (next : IsLoadedNext limits rows line row) where
  abbrev after_row : History
  after_row = row ∷ history_of rows

  newest_line : (event : ℕ) → event ≡ suc (length (history_of rows)) → event_line (before ++ line ∷ []) event ≡ line
  newest_line event new =
      let place : event - 1 ≡ length before + 0 = omega (arith, new, so_far.counted, length-reverse rows) in
      ap (λ k. slice_index_or (before ++ line ∷ []) k []) place ∙ get_or-append-add before (line ∷ []) 0 []

  newest_listed : (event : ℕ) → event ≡ suc (length (history_of rows)) → next.listed ≡ listed_row event row (stamp_text_of after_row event)
  newest_listed event new =
      let is = row_listed next in
      same_listed next.listed event row (stamp_text_of after_row event)
      (omega (arith, next.due.may.1.number.0, new, length-reverse rows))
      (sym (ap (λ (found : Row). found.kind) is))
      (sym (ap (λ (found : Row). found.name) is))
      (sym next.due.due.0)
      (sym next.due.due.1 ∙ text_due rows row ∙ ap (stamp_text_of after_row) (sym new))
      (sym (ap (λ (found : Row). found.task) is))

  lists_newest : (event : ℕ) → event ≡ suc (length (history_of rows)) → ListsAs (event_line (before ++ line ∷ []) event) (listed_row event row (stamp_text_of after_row event))
  lists_newest event new =
      subst (λ (text : Text). ListsAs text (listed_row event row (stamp_text_of after_row event))) (sym (newest_line event new))
      (subst (ListsAs line) (newest_listed event new) next.listing.1)

  lists_older : (event : ℕ) (found : Row) → row_of (history_of rows) event ≡ Some found → ListsAs (event_line (before ++ line ∷ []) event) (listed_row event found (stamp_text_of after_row event))
  lists_older event found is =
      let within = row_of-within (history_of rows) event found is in
      let same : event_line (before ++ line ∷ []) event ≡ event_line before event =
      get_or_append_left before (line ∷ []) [] (event - 1) (omega (arith, within.0, within.1, so_far.counted, length-reverse rows)) in
      subst (λ (text : Text). ListsAs text (listed_row event found (stamp_text_of after_row event))) (sym same)
      (subst (λ (stamp : Text). ListsAs (event_line before event) (listed_row event found stamp)) (sym (stamp_text-older row (history_of rows) event within.1)) (so_far.each event found is))

  lists_either : (event : ℕ) (found : Row) → row_of after_row event ≡ Some found → ListsAs (event_line (before ++ line ∷ []) event) (listed_row event found (stamp_text_of after_row event))
  lists_either event found is = elim (cases_eq event (suc (length (history_of rows)))) [
    | inl new ↦
        let same : row ≡ found = same_Some row found (sym (row_of-newest row (history_of rows) event new) ∙ is) in
        subst (λ (this : Row). ListsAs (event_line (before ++ line ∷ []) event) (listed_row event this (stamp_text_of after_row event))) same (lists_newest event new)
    | inr other ↦ lists_older event found (sym (row_of-older row (history_of rows) event other) ∙ is)
  ]

  lists_more : ListsSoFar (before ++ line ∷ []) (rows ++ row ∷ [])
  lists_more = record {
    counted = omega (arith, so_far.counted, length-append before (line ∷ []), length-append rows (row ∷ []));
    each = subst (λ (history : History). (event : ℕ) (found : Row) → row_of history event ≡ Some found → ListsAs (event_line (before ++ line ∷ []) event) (listed_row event found (stamp_text_of history event)))
        (sym (reverse-append rows (row ∷ []))) lists_either;
  }

lists_all : (limits : Limits) (before : List Text) (earlier : List Row) (these : List Text) (rows : List Row) → ListsSoFar before earlier → AreLoadedAfter limits earlier these rows → ListsSoFar (before ++ these) rows
lists_all limits before earlier [] rows so_far loaded =
    subst (λ (all : List Text). ListsSoFar all rows) (sym (append-nil before)) (subst (ListsSoFar before) (sym loaded) so_far)
lists_all limits before earlier (line ∷ rest) rows so_far loaded =
    subst (λ (all : List Text). ListsSoFar all rows) (append_assoc before (line ∷ []) rest)
    (lists_all limits (before ++ line ∷ []) (earlier ++ loaded.0 ∷ []) rest rows (lists_more limits before earlier line loaded.0 so_far loaded.1) loaded.2)

-- ---- the bytes

-- bytes that are loaded are the export of the rows that their requests make
pub loaded_is_export : (bytes : List ℕ) (count : ℕ) (rows : List Row) → IsLoaded bytes (Done count) rows → IsExportOfRun bytes count rows
loaded_is_export bytes count rows is =
    let limits = limits_under is.header in
    let loaded = is.judged.1 in
    let legal = loaded_are_legal limits is.events rows loaded in
    record {
      header = is.header;
      events = is.events;
      parts = is.parts;
      counted = (is.judged.0, is.judged.0 ∙ sym (loaded_count limits is.events rows loaded));
      listed = (lists_all limits [] [] is.events rows lists_none loaded).each;
      runs = runs_anew limits is.events rows loaded;
      verdict = record {
        header = is.header;
        events = is.events;
        parts = is.parts;
        judged = (is.judged.0, (placing_of (history_of rows), right_all limits [] is.events rows loaded (IsLegal_from_AreLegal limits rows legal) (legal_rows_are_sound limits rows legal)));
      };
    }
