-- What a report that is not refused says of the ids and of the trees that its event is made of.
use Rattle.std.proofs.Common.{◌≡◌, ◌≢◌, ℕ, ◌+◌, ◌<◌, ◌≤◌, true, false, length, slice_get, Some, refl, sym, ap, ◌∙◌, subst, inl, inr, arith}
use Rattle.tenant_ledger.proofs.Words.{false≢true, cond-true, cond-false, length-reverse, same_Some, slice_get_within, differ_by_test, Text, second_event, History, last_event, tree_clock, id_of, tree_of, acting_id, id_at, takes_in, Id, Zero, AreDisjoint, owns, EventTree, maximum, Row, Kind, Join, AllowsNamed, Contents, IsKept, IsReport, history_in, task_in, row_of_report, ids_made, id_for, kind_of, name_of, second_of, IsFound, Deed, Report, Task}
use Rattle.tenant_ledger.specs.declared.book.report.Deed.TheVariants as deed
use Rattle.tenant_ledger.proofs.clock.Consequences.{ids_are_disjoint, acting_id_is_not_Zero, known_before_maximum-le}
use Rattle.tenant_ledger.proofs.clock.Events.{known_before_new}
use Rattle.tenant_ledger.proofs.clock.Reaching.{followed-le}
use Rattle.tenant_ledger.proofs.clock.Tasks.{live_is_not_ended}
use Rattle.tenant_ledger.proofs.keeping.Kept.{legal_with_row}
use Rattle.tenant_ledger.proofs.keeping.Known.{legal_history, task_kept, IsAt, is_at}
use Rattle.tenant_ledger.proofs.keeping.Messages.{sent_by}
use Rattle.tenant_ledger.proofs.keeping.Tasks.{own_id}

-- the id with which an event is made
pub acting_of_made : (kind : Kind) (own named : Id) → id_for (ids_made kind own named) own ≡ id_at tree_clock kind own named
acting_of_made Join own named = refl
acting_of_made kind own named = refl

-- the event that a report follows beside the last one of its task
second_is_kept : (book : Contents) → IsKept book → (start : ℕ) (deed : Deed) → IsFound book start deed → second_of deed ≡ second_event (history_in book) (kind_of deed) (name_of deed)
second_is_kept book kept start (deed.Recv message there sent) is = sent_by book kept message is.1
second_is_kept book kept start (deed.Join child there found) is = (task_kept book kept child is).2
second_is_kept book kept start deed is = refl

module _ {book : Contents} {report : Report} (kept : IsKept book) (is : IsReport book report) where
  abbrev history : History
  history = history_in book

  abbrev row : Row
  row = row_of_report book report

  own_id_kept : slice_get book.ids report.acting.id ≡ Some (id_of tree_clock history report.task)
  own_id_kept = own_id book kept report.task report.acting is.acting (legal_with_row book kept report is).0.0

  pub own_place : report.acting.id < length book.ids
  own_place = slice_get_within book.ids report.acting.id _ own_id_kept

  pub own_is : {id : Id} → slice_get book.ids report.acting.id ≡ Some id → id ≡ id_of tree_clock history report.task
  own_is {id} there = same_Some id _ (sym there ∙ own_id_kept)

  -- the events that it follows
  pub acting_last : report.acting.last ≡ last_event history report.task
  acting_last = (task_kept book kept report.task is.acting).2

  pub last-le : report.acting.last ≤ length book.rows
  last-le = omega (arith, acting_last, followed-le row history (last_event history report.task) (inl refl), length-reverse book.rows)

  pub second_is : second_of report.deed ≡ second_event history (kind_of report.deed) (name_of report.deed)
  second_is = second_is_kept book kept report.acting.start report.deed is.found

  pub second-le : second_of report.deed ≤ length book.rows
  second-le =
      omega (arith, second_is, followed-le row history (second_event history (kind_of report.deed) (name_of report.deed)) (inr refl), length-reverse book.rows)

  -- an event may be made of what is known before it
  pub id_some : {id : Id} → id ≡ acting_id tree_clock history row → id ≢ Zero
  id_some id_is zero = acting_id_is_not_Zero row history (legal_with_row book kept report is) (sym id_is ∙ zero)

  pub fits : {known : EventTree} → known ≡ known_before_new tree_clock row history → maximum known + 1 < 18446744073709551616
  fits {known} known_is =
      let bounded : maximum known ≤ length history = omega (arith, ap maximum known_is, known_before_maximum-le row history (legal_history book kept)) in
      omega (arith, bounded, length-reverse book.rows, kept.small)

  -- that is what its task knew, joined with what the second event knew where it takes that in
  pub knows_both : takes_in (kind_of report.deed) ≡ true → {own second : EventTree} → own ≡ tree_of tree_clock history report.acting.last
      → second ≡ tree_of tree_clock history (second_of report.deed) → tree_clock.join own second ≡ known_before_new tree_clock row history
  knows_both takes {own} {second} own_knows second_knows =
      let one : own ≡ tree_of tree_clock history (last_event history report.task) = own_knows ∙ ap (tree_of tree_clock history) acting_last in
      let other : second ≡ tree_of tree_clock history (second_event history (kind_of report.deed) (name_of report.deed)) = second_knows ∙ ap (tree_of tree_clock history) second_is in
      (λ i. tree_clock.join (one i) (other i)) ∙ sym (cond-true (takes_in (kind_of report.deed)) _ _ takes)

  pub knows_own : takes_in (kind_of report.deed) ≡ false → {own : EventTree} → own ≡ tree_of tree_clock history report.acting.last → own ≡ known_before_new tree_clock row history
  knows_own takes own_is = own_is ∙ ap (tree_of tree_clock history) acting_last ∙ sym (cond-false (takes_in (kind_of report.deed)) _ _ takes)

  -- a task that it joins has ended, and its id is kept
  module _ {child : Text} {there : ℕ} {had : Task} (join_is : report.deed ≡ deed.Join child there had) where
    allowed_join : AllowsNamed history Join (Some child)
    allowed_join = subst (λ one. AllowsNamed history (kind_of one) (name_of one)) join_is (legal_with_row book kept report is).0.1

    joined_found : task_in book child ≡ Some had
    joined_found = subst (IsFound book report.acting.start) join_is is.found

    joined_id_kept : slice_get book.ids had.id ≡ Some (id_of tree_clock history child)
    joined_id_kept =
        (task_kept book kept child joined_found).3 λ joined.
        false≢true (sym allowed_join.2 ∙ (subst (IsAt history child) joined (is_at book kept child joined_found)).1)

    pub joined_place : had.id < length book.ids
    joined_place = slice_get_within book.ids had.id _ joined_id_kept

    pub joined_is : {id : Id} → slice_get book.ids had.id ≡ Some id → id ≡ id_of tree_clock history child
    joined_is {id} got = same_Some id _ (sym got ∙ joined_id_kept)

    pub disjoint : {own other : Id} → own ≡ id_of tree_clock history report.task → other ≡ id_of tree_clock history child → AreDisjoint own other
    disjoint acts is_named point held other_held =
        let differ = live_is_not_ended history report.task child (legal_with_row book kept report is).0.0 allowed_join.1 in
        ids_are_disjoint history (legal_history book kept) report.task child (differ_by_test report.task child differ) point
        (ap (λ id. owns id point) (sym acts) ∙ held)
        (ap (λ id. owns id point) (sym is_named) ∙ other_held)
