-- Which event started the task of an event: it tells the tasks apart, and comes before the event.
use Rattle.std.proofs.Common.{◌≡◌, ◌≢◌, ◌⊎◌, ℕ, suc, ◌<◌, ◌≤◌, true, false, IsTrue, eqb, [], ◌∷◌, length, Option, Some, None, unwrap_or, refl, sym, ap, subst, ◌∙◌, inl, inr, arith}
use Rattle.std.proofs.lemmas.Bool.Decides.{nat_tests}
use Rattle.std.proofs.lemmas.Bool.{ne_eqb}
use Rattle.std.proofs.lemmas.Option.{none-some}
use Rattle.trace_types.proofs.Cuts.{row_there}
use Rattle.trace_types.proofs.Reachability.{newest-le}
use Rattle.tenant_ledger.proofs.Words.{false≢true, cases_Bool, cases_eq, cond-true, cond-false, eq-eqb, is_same_iff, Text, is_same, root, History, start_event, start_of, newest, starts, names, is_known, is_event, row_of, are_of_one_task, Row, Kind, Spawn, AllowsNamed, IsLegal}
use Rattle.tenant_ledger.proofs.clock.Events.{event_bounds}

-- a row that does not start the task leaves when it was started
pub start_event-other : (row : Row) (earlier : History) (task : Text) → starts task row ≡ false → start_event (row ∷ earlier) task ≡ start_event earlier task
start_event-other row earlier task not_started = cond-false (starts task row) _ _ not_started

pub start_event-started : (row : Row) (earlier : History) (task : Text) → starts task row ≡ true → start_event (row ∷ earlier) task ≡ suc (length earlier)
start_event-started row earlier task started = cond-true (starts task row) _ _ started

-- what is told of the newest event, and of any other
pub start_of-newest : (row : Row) (earlier : History) → start_of (row ∷ earlier) (suc (length earlier)) ≡ start_event (row ∷ earlier) row.task
start_of-newest row earlier = cond-true (eqb (suc (length earlier)) (suc (length earlier))) _ _ (eq-eqb (suc (length earlier)) (suc (length earlier)) refl)

pub start_of-older : (row : Row) (earlier : History) (event : ℕ) → event ≢ suc (length earlier) → start_of (row ∷ earlier) event ≡ start_of earlier event
start_of-older row earlier event older = grind (arith, nat_tests)

-- a task that a row may start is not known before it
pub started_was_unknown : (earlier : History) (row : Row) (task : Text) (kind : Kind) (named : Option Text) → AllowsNamed earlier kind named
    → starts task (record row { kind = kind; name = named }) ≡ true → is_known earlier task ≡ false
started_was_unknown earlier row task Spawn (Some child) allowed started = subst (λ name. is_known earlier name ≡ false) ((is_same_iff child task).0 started) allowed
started_was_unknown earlier row task Spawn None allowed started = absurd allowed
started_was_unknown earlier row task kind named allowed started = absurd (false≢true started)

-- so a task that is known is not started again
known_is_not_started : (row : Row) (earlier : History) (task : Text) → IsLegal (row ∷ earlier) → is_known earlier task ≡ true → starts task row ≡ false
known_is_not_started row earlier task legal known = elim (cases_Bool (starts task row)) [
  | inl started ↦ absurd (false≢true (sym (started_was_unknown earlier row task row.kind row.name legal.0.1 started) ∙ known))
  | inr not_started ↦ not_started
]

-- an event's task is known, and what is told of the event is when its task was started
pub starts_task_of : (history : History) → IsLegal history → (event : ℕ) (row : Row) → row_of history event ≡ Some row
    → (is_known history row.task ≡ true) × (start_of history event ≡ start_event history row.task)
starts_task_of [] legal event row is = absurd (none-some row is)
starts_task_of (newest ∷ earlier) legal event row is = at (cases_eq event (suc (length earlier))) (starts_task_of earlier legal.1 event row)
  where
    still : (task : Text) → is_known earlier task ≡ true → is_known (newest ∷ earlier) task ≡ true
    still task known = grind (arith, nat_tests)

    at : (event ≡ suc (length earlier)) ⊎ (event ≢ suc (length earlier))
        → (row_of earlier event ≡ Some row → (is_known earlier row.task ≡ true) × (start_of earlier event ≡ start_event earlier row.task))
        → (is_known (newest ∷ earlier) row.task ≡ true) × (start_of (newest ∷ earlier) event ≡ start_event (newest ∷ earlier) row.task)
    at (inl last) before =
        let here : newest ≡ row = grind (arith, nat_tests, last, is) in
        let known : is_known earlier row.task ≡ true = subst (λ (r : Row). is_known earlier r.task ≡ true) here legal.0.0.0 in (
          still row.task known,
          ap (start_of (newest ∷ earlier)) last ∙ start_of-newest newest earlier ∙ ap (λ (r : Row). start_event (newest ∷ earlier) r.task) here,
        )
    at (inr older) before =
        let found : row_of earlier event ≡ Some row = grind (arith, nat_tests, older, is) in
        let had = before found in (
          still row.task had.0,
          start_of-older newest earlier event older ∙ had.1 ∙ sym (start_event-other newest earlier row.task (known_is_not_started newest earlier row.task legal had.0)),
        )

-- an event comes after the one that started its task
pub start_of-before : (history : History) → IsLegal history → (event : ℕ) → IsTrue (is_event history event) → start_of history event < event
start_of-before [] legal event is = absurd (omega (arith, (event_bounds [] event is).0, (event_bounds [] event is).1))
start_of-before (row ∷ earlier) legal event is = at (cases_eq event (suc (length earlier))) (start_of-before earlier legal.1 event)
  where
    at : (event ≡ suc (length earlier)) ⊎ (event ≢ suc (length earlier)) → (IsTrue (is_event earlier event) → start_of earlier event < event)
        → start_of (row ∷ earlier) event < event
    at (inl last) before =
        let started = ap (start_of (row ∷ earlier)) last ∙ start_of-newest row earlier
        ∙ start_event-other row earlier row.task (known_is_not_started row earlier row.task legal legal.0.0.0) in
        omega (arith, last, started, newest-le (starts row.task) earlier)
    at (inr older) before =
        let bounds = event_bounds (row ∷ earlier) event is in
        let there : IsTrue (is_event earlier event) = grind (arith, nat_tests, bounds.0, bounds.1, older) in
        subst (λ start. start < event) (sym (start_of-older row earlier event older)) (before there)

-- tasks that are known and were started by one event are one task
pub one_start : (history : History) → IsLegal history → (task other : Text) → is_known history task ≡ true → is_known history other ≡ true
    → start_event history task ≡ start_event history other → task ≡ other
one_start [] legal task other known other_known same =
    (is_same_iff task root).0 (grind (arith, nat_tests, known)) ∙ sym ((is_same_iff other root).0 (grind (arith, nat_tests, other_known)))
one_start (row ∷ earlier) legal task other known other_known same = at (cases_Bool (starts task row)) (cases_Bool (starts other row)) (one_start earlier legal.1 task other)
  where
    named : (named : Option Text) (one : Text) → names (record row { name = named }) one ≡ true → named ≡ Some one
    named None one is = absurd (false≢true is)
    named (Some found) one is = ap Some ((is_same_iff found one).0 is)

    behind : (one : Text) → start_event earlier one ≤ length earlier
    behind one = newest-le (starts one) earlier

    was_known : (one : Text) → starts one row ≡ false → is_known (row ∷ earlier) one ≡ true → is_known earlier one ≡ true
    was_known one not_started is = grind (arith, nat_tests)

    at : (starts task row ≡ true) ⊎ (starts task row ≡ false) → (starts other row ≡ true) ⊎ (starts other row ≡ false)
        → (is_known earlier task ≡ true → is_known earlier other ≡ true → start_event earlier task ≡ start_event earlier other → task ≡ other) → task ≡ other
    at (inl one) (inl two) before =
        let first = named row.name task (grind (arith, nat_tests, one)) in
        let second = named row.name other (grind (arith, nat_tests, two)) in
        ap (λ (o : Option Text). unwrap_or o task) (sym first ∙ second)
    at (inl one) (inr two) before =
        absurd (omega (arith, same, start_event-started row earlier task one, start_event-other row earlier other two, behind other))
    at (inr one) (inl two) before =
        absurd (omega (arith, same, start_event-other row earlier task one, start_event-started row earlier other two, behind task))
    at (inr one) (inr two) before =
        before (was_known task one known) (was_known other two other_known)
        (sym (start_event-other row earlier task one) ∙ same ∙ start_event-other row earlier other two)

-- so two events are of one task where their tasks were started by one event
pub one_task_by_start : (history : History) → IsLegal history → (a b : ℕ) → IsTrue (is_event history a) → IsTrue (is_event history b)
    → are_of_one_task history a b ≡ eqb (start_of history a) (start_of history b)
one_task_by_start history legal a b a_is b_is =
    let one = row_there history a (event_bounds history a a_is).0 (event_bounds history a a_is).1 in
    let two = row_there history b (event_bounds history b b_is).0 (event_bounds history b b_is).1 in
    let first = starts_task_of history legal a one.0 one.1 in
    let second = starts_task_of history legal b two.0 two.1 in
    let by_names : are_of_one_task history a b ≡ is_same one.0.task two.0.task = grind (arith, nat_tests, one.1, two.1) in
    by_names ∙ elim (cases_eq (start_of history a) (start_of history b)) [
      | inl same ↦ (
          let task = one_start history legal one.0.task two.0.task first.0 second.0 (sym first.1 ∙ same ∙ second.1) in
          (is_same_iff one.0.task two.0.task).1 task ∙ sym (eq-eqb (start_of history a) (start_of history b) same)
          )
      | inr differ ↦ elim (cases_Bool (is_same one.0.task two.0.task)) [
        | inl is ↦ (
            let task = (is_same_iff one.0.task two.0.task).0 is in
            absurd (differ (first.1 ∙ ap (start_event history) task ∙ sym second.1))
            )
        | inr not ↦ not ∙ sym (ne_eqb (start_of history a) (start_of history b) differ)
      ]
    ]
