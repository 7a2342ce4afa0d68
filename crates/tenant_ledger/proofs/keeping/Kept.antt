-- A book is kept with the event of a report that is not refused.
use Rattle.std.proofs.Common.{◌≡◌, ℕ, false, ◌||◌, IsTrue, List, suc, ◌-◌, ◌<◌, ◌≤◌, [], ◌∷◌, ◌++◌, length, map, slice_get, option_map, Option, Some, refl, sym, ap, ◌∙◌, subst, inl, inr, arith}
use Rattle.std.proofs.lemmas.List.Elements.{All-nil, All-push}
use Rattle.trace_types.specs.clock.Id.{One}
use Rattle.tenant_ledger.specs.Messages.{messages_of, noted}
use Rattle.tenant_ledger.specs.Room.{roomless}
use Rattle.tenant_ledger.specs.NewBook.{new_book}
use Rattle.tenant_ledger.proofs.Words.{nat_tests, cases_Bool, cond-true, or_left, length-append, length-map, length-reverse, reverse-append, map-append, same_Some, slice_get-map, is_same, root, Text, History, history_of, is_event, EventTree, task_count, tree_clock, id_of, tree_of, with_row, fresh, Limits, Row, IsLegal, Contents, Event, IsKept, IsTask, IsReport, IsReady, HasRoom, ArePoints, MayRaise, history_in, tenant_of, task_in, of_each, id_after, start_of, event_of, with_event, tasks_with, kind_of, name_of, row_of_report, Report}
use Rattle.event_tree.specs.declared.point.RaisedPoint.{RaisedPoint}
use Rattle.tenant_ledger.proofs.clock.Events.{event_bounds, tree_of-older}
use Rattle.tenant_ledger.proofs.clock.Legality.{IsLegal_from_AreLegal}
use Rattle.tenant_ledger.specs.Adding.{messages_after}
use Rattle.tenant_ledger.specs.Contents.{messages_in}
use Rattle.tenant_ledger.proofs.keeping.Known.{task_kept}
use Rattle.tenant_ledger.proofs.keeping.Lists.{length-of_each, at_event, same_places, slice_get-seam, Stays}
use Rattle.tenant_ledger.proofs.keeping.Messages.{is_noted}
use Rattle.tenant_ledger.proofs.keeping.Points.{no_points, points_with_one}
use Rattle.tenant_ledger.proofs.keeping.Tables.{tasks_counted, tasks_found}
use Rattle.tenant_ledger.proofs.keeping.Tasks.{id_is_kept, id_is_left, start_is_kept, started_as, tasks_are_kept, tasks_are_counted}

module _ (rows : List Row) (trees : List EventTree) (are : trees ≡ of_each (tree_of tree_clock) (history_of rows)) where
  -- what is kept of an event: its tree
  pub tree_at_event : (event : ℕ) → 0 < event → event ≤ length rows → slice_get trees (event - 1) ≡ Some (tree_of tree_clock (history_of rows) event)
  tree_at_event event positive within =
      ap (λ trees. slice_get trees (event - 1)) are ∙ at_event (tree_of tree_clock) (tree_of-older tree_clock) (history_of rows) event positive
      (omega (arith, within, length-reverse rows))

  -- a tree is kept of each event
  pub one_tree : length trees ≡ length rows
  one_tree = ap length are ∙ length-of_each (tree_of tree_clock) (history_of rows) ∙ length-reverse rows

-- an event of the book is one of its rows
pub event_within : (book : Contents) (event : ℕ) → IsTrue (is_event (history_in book) event) → (0 < event) × (event ≤ length book.rows)
event_within book event is =
    let bounds = event_bounds (history_in book) event is in
    (bounds.0, omega (arith, bounds.1, length-reverse book.rows))

-- what is told of an event's task is not told anew by a later row
pub id_after-older : Stays id_after
id_after-older row earlier event older = grind (arith, nat_tests)

module _ (book : Contents) (kept : IsKept book) where
  -- the book has a place of the id of each event's task after it
  pub one_place : length book.places ≡ length book.rows
  one_place =
      sym (length-map book.places (slice_get book.ids)) ∙ ap length kept.places ∙ length-map (of_each id_after (history_in book)) Some
      ∙ length-of_each id_after (history_in book) ∙ length-reverse book.rows

  pub id_at_event : (event place : ℕ) → 0 < event → event ≤ length book.rows → slice_get book.places (event - 1) ≡ Some place
      → slice_get book.ids place ≡ Some (id_after (history_in book) event)
  id_at_event event place positive within there =
      let told = at_event id_after id_after-older (history_in book) event positive (omega (arith, within, length-reverse book.rows)) in
      same_Some (slice_get book.ids place) (Some (id_after (history_in book) event))
      (sym (slice_get-map (slice_get book.ids) book.places (event - 1) ∙ ap (option_map (slice_get book.ids)) there)
      ∙ ap (λ ids. slice_get ids (event - 1)) kept.places ∙ slice_get-map Some (of_each id_after (history_in book)) (event - 1) ∙ ap (option_map Some) told)

  -- how many ids are kept, and for how many more there is room, does not matter
  pub kept_with_room : (new : Contents) → new ≡ record book { kept_ids = new.kept_ids; room = new.room } → book.kept_ids ≤ new.kept_ids → IsKept new
  kept_with_room new same more =
      let seeded : 0 < length book.rows → 0 < new.kept_ids = λ some. omega (arith, kept.seeded some, more) in subst IsKept (sym same) search

  pub report_with_room : (new : Contents) → new ≡ record book { kept_ids = new.kept_ids; room = new.room } → (report : Report) → IsReport book report → IsReport new report
  report_with_room new same report is = subst (λ b. IsReport b report) (sym same) search

module _ (book : Contents) (kept : IsKept book) (report : Report) (is : IsReport book report) where
  abbrev history : History
  history = history_in book

  abbrev row : Row
  row = row_of_report book report

  -- the rows with that of the report are legal
  pub legal_with_row : IsLegal (row ∷ history)
  legal_with_row = subst IsLegal (reverse-append book.rows (row ∷ [])) (IsLegal_from_AreLegal book.limits (book.rows ++ row ∷ []) is.legal)

  pub keeps_report : 0 < book.kept_ids → (point : Option RaisedPoint) → MayRaise book report point → IsKept (with_event (event_of book report point) book)
  keeps_report seeded point raised =
      let event = event_of book report point in
      let live = legal_with_row.0.0 in
      let allowed = legal_with_row.0.1 in
      let to_longer = sym (reverse-append book.rows (row ∷ [])) in
      let number : suc (length book.rows) ≡ suc (length history) = omega (arith, length-reverse book.rows) in
      let start = started_as report.deed (suc (length history)) (length book.ids) report.acting in
      let newest : id_after (row ∷ history) (suc (length history)) ≡ id_of tree_clock (row ∷ history) row.task = grind (arith, nat_tests) in
      record {
        legal = is.legal;
        small = omega (arith, is.few, length-append book.rows (row ∷ []));
        trees = ap (λ trees. trees ++ event.tree ∷ []) kept.trees ∙ ap (of_each (tree_of tree_clock)) to_longer;
        homes = All-push (λ home. home ≡ book.home) book.homes book.home kept.homes refl;
        starts = ap (λ starts. starts ++ event.acting.start ∷ []) kept.starts
            ∙ ap (λ start. of_each start_of history ++ start ∷ []) (start_is_kept book kept report.task report.acting is.acting live report.deed allowed)
            ∙ ap (of_each start_of) to_longer;
        points = subst (λ h. ArePoints h (book.points ++ point ∷ [])) to_longer (points_with_one row history book.points point kept.points raised);
        places =
            let place = id_is_kept book kept report.task report.acting is.acting live report.deed in
            map-append (slice_get (book.ids ++ event.ids)) book.places (event.acting.id ∷ [])
            ∙ (λ i. same_places book.ids event.ids book.places (of_each id_after history) kept.places i
            ++ (place ∙ ap Some (sym newest)) i ∷ [])
            ∙ sym (map-append Some (of_each id_after history) (id_after (row ∷ history) (suc (length history)) ∷ []))
            ∙ ap (λ h. map Some (of_each id_after h)) to_longer;
        tasks_are = λ name. subst (IsTask (book.ids ++ event.ids) (history_of (book.rows ++ row ∷ [])) name) (sym (tasks_found event book name))
            (subst (λ h. IsTask (book.ids ++ event.ids) h name (tasks_with event book name)) to_longer
            (tasks_are_kept book kept report.task report.acting is.acting live report.deed is.found allowed name));
        counted = tasks_counted event book ∙ tasks_are_counted book kept report.task report.acting is.acting live report.deed is.found allowed ∙ ap task_count to_longer;
        messages = (λ i. messages_after (kind_of report.deed) (name_of report.deed) (start i) (number i) (messages_in book))
            ∙ is_noted book report.acting.start (suc (length history)) report.deed is.found
            ∙ (λ i. noted (kind_of report.deed) (name_of report.deed) ((task_kept book kept report.task is.acting).4 i) (suc (length history)) (kept.messages i))
            ∙ ap messages_of to_longer;
        seeded = λ _. omega (arith, seeded);
      }

  -- so it is ready to be added
  pub report_is_ready : HasRoom book → (point : Option RaisedPoint) → MayRaise book report point → IsReady book (event_of book report point)
  report_is_ready room point raised = record {
    kept = kept;
    next = keeps_report room.seeded point raised;
    room = room;
    id = id_is_left book kept report.task report.acting is.acting legal_with_row.0.0 report.deed;
  }

-- What a ready event knows is what the rows with its own tell.
pub ready_tree : (book : Contents) (event : Event) → IsReady book event → event.tree ≡ tree_of tree_clock (event.row ∷ history_in book) (suc (length book.rows))
ready_tree book event ready =
    let rows = book.rows ++ event.row ∷ [] in
    let trees = book.trees ++ event.tree ∷ [] in
    let as_many = one_tree book.rows book.trees ready.kept.trees in
    let place : length book.trees ≡ suc (length book.rows) - 1 = omega (arith, as_many) in
    let newest = tree_at_event rows trees ready.next.trees (suc (length book.rows)) (omega arith) (omega (arith, length-append book.rows (event.row ∷ []))) in
    same_Some _ _ (sym (slice_get-seam book.trees event.tree []) ∙ ap (slice_get trees) place ∙ newest)
    ∙ ap (λ h. tree_of tree_clock h (suc (length book.rows))) (reverse-append book.rows (event.row ∷ []))

-- A book is kept with a ready event, for however many more it has room.
pub added : (book : Contents) (event : Event) → IsReady book event → (new : Contents) → new ≡ record (with_event event book) { room = new.room }
    → IsKept new × (tenant_of new ≡ with_row (tenant_of book) (Some event.row))
added book event ready new same = (
  kept_with_room (with_event event book) ready.next new
      (same ∙ (λ i. record (with_event event book) { kept_ids = (ap (λ (b : Contents). b.kept_ids) (sym same)) i; room = new.room }))
      (omega (arith, ap (λ (b : Contents). b.kept_ids) same)),
  ap tenant_of same,
)

-- Of a tenant that has reported nothing, a book is kept with no ids, or with that of `root`.
pub new_is_kept : (home : List ℕ) (limits : Limits) (kept_ids : ℕ) (new : Contents) → roomless new ≡ new_book home limits kept_ids
    → IsKept new × (tenant_of new ≡ fresh limits)
new_is_kept home limits kept_ids new is = (
  kept_with_room (new_book home limits kept_ids) first new (λ i. record (is i) { kept_ids = new.kept_ids; room = new.room }) (omega (arith, ap (λ (b : Contents). b.kept_ids) is)),
  ap tenant_of is,
)
  where
    no_task : (name : Text) → IsTask (One ∷ []) [] name (task_in (new_book home limits kept_ids) name)
    no_task name = elim (cases_Bool (is_same name root)) [
      | inl same ↦ rw same (or_left (is_same name root) _ same, refl, refl, λ _. ap Some (sym (cond-true (is_same name root) _ _ same)), refl)
      | inr differ ↦ rw differ (ap (λ is. is || false) differ)
    ]

    first : IsKept (new_book home limits kept_ids)
    first = record {
      legal = ([], tt, refl);
      small = omega arith;
      trees = refl;
      homes = All-nil (λ one. one ≡ home);
      points = no_points;
      starts = refl;
      places = refl;
      tasks_are = no_task;
      counted = refl;
      messages = refl;
      seeded = λ some. absurd (omega (arith, some));
    }

-- So is the book that is seen without its room.
pub kept_roomless : (book seen : Contents) → roomless book ≡ seen → IsKept seen → IsKept book
kept_roomless book seen same kept =
    kept_with_room seen kept book (λ i. record (same i) { kept_ids = book.kept_ids; room = book.room }) (omega (arith, ap (λ (b : Contents). b.kept_ids) same))
