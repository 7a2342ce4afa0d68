-- What stands in the cut of an event.
use Rattle.std.proofs.Common.{◌≡◌, ◌≢◌, ◌↔◌, ◌⊎◌, ℕ, zero, suc, ◌+◌, ◌<◌, ◌≤◌, Bool, true, false, not, ◌&&◌, IsTrue, eqb, ltb, List, [], ◌∷◌, length, Option, Some, None, Contains, refl, sym, ap, ◌∙◌, inl, inr, arith}
use Rattle.std.specs.List.Sorted.{IsStrictlyIncreasing}
use Rattle.std.proofs.lemmas.Bool.{false≢true, cases_Bool, cases_eq, and_parts, and_from, lt-ltb, ltb-true, eq-eqb, ne_eqb, cond-true, cond-false, not-true, not_from_false}
use Rattle.std.proofs.lemmas.Bool.Decides.{nat_tests}
use Rattle.std.proofs.lemmas.List.Folds.{list_any_at}
use Rattle.std.proofs.lemmas.List.Kept.{IsStrictlyIncreasing-filter}
use Rattle.std.proofs.lemmas.Option.{none-some, same_Some}
use Rattle.trace_types.specs.tenant.Rows.{History, row_of, is_event, events}
use Rattle.trace_types.specs.tenant.Reachability.{LeadsBack, Reaches, reaches, have_one_task, are_of_one_task, is_outdated, cut_of, IsLastToReach, HasOneOfTask}
use Rattle.trace_types.specs.declared.row.Row.{Row}
use Rattle.trace_types.proofs.Names.{is_same_iff}
use Rattle.trace_types.proofs.Chosen.{Contains-filter, filter-Contains, Contains-numbers, numbers_increase}
use Rattle.trace_types.proofs.Reachability.{predecessors_of_before, reaches_iff, Contains_from_list_any}

-- what reaches an event does not come after it
pub Reaches-le : (history : History) (b : ℕ) (path : List ℕ) (a : ℕ) → LeadsBack history b path a → a ≤ b
Reaches-le history b [] a leads = omega (arith, leads)
Reaches-le history b (event ∷ path) a leads =
    omega (arith, (predecessors_of_before history b event leads.0).1, Reaches-le history event path a leads.1)

-- the numbers of the events
pub event_bounds : (history : History) (event : ℕ) → IsTrue (is_event history event) → (0 < event) × (event ≤ length history)
event_bounds history event is =
    let parts = and_parts (ltb 0 event) (ltb event (suc (length history))) is in
    let high : event < suc (length history) = ltb-true event (suc (length history)) parts.1 in
    (ltb-true 0 event parts.0, omega (arith, high))

event_from_bounds : (history : History) (event : ℕ) → 0 < event → event ≤ length history → IsTrue (is_event history event)
event_from_bounds history event positive within =
    and_from (ltb 0 event) (ltb event (suc (length history))) (lt-ltb 0 event positive) (lt-ltb event (suc (length history)) (omega (arith, within)))

-- each event has a row, and nothing else has
pub row_there : (history : History) (event : ℕ) → 0 < event → event ≤ length history → (row : Row) × (row_of history event ≡ Some row)
row_there [] event positive within = absurd (omega (arith, positive, within))
row_there (row ∷ earlier) event positive within = at (cases_eq event (suc (length earlier))) (row_there earlier event positive)
  where
    at : (event ≡ suc (length earlier)) ⊎ (event ≢ suc (length earlier)) → (event ≤ length earlier → (row : Row) × (row_of earlier event ≡ Some row))
        → (found : Row) × (row_of (row ∷ earlier) event ≡ Some found)
    at (inl last) known = (row, cond-true (eqb event (suc (length earlier))) _ _ (eq-eqb event (suc (length earlier)) last))
    at (inr older) known =
        let found = known (omega (arith, older, within)) in
        (found.0, cond-false (eqb event (suc (length earlier))) _ _ (ne_eqb event (suc (length earlier)) older) ∙ found.1)

event_of_row : (history : History) (event : ℕ) (row : Row) → row_of history event ≡ Some row → (0 < event) × (event ≤ length history)
event_of_row [] event row is = absurd (none-some row is)
event_of_row (newest ∷ earlier) event row is = at (cases_eq event (suc (length earlier))) (event_of_row earlier event row)
  where
    at : (event ≡ suc (length earlier)) ⊎ (event ≢ suc (length earlier)) → (row_of earlier event ≡ Some row → (0 < event) × (event ≤ length earlier))
        → (0 < event) × (event ≤ suc (length earlier))
    at (inl last) known = (omega (arith, last), omega (arith, last))
    at (inr older) known =
        let found = known (sym (cond-false (eqb event (suc (length earlier))) (Some newest) (row_of earlier event) (ne_eqb event (suc (length earlier)) older)) ∙ is) in
        (found.0, omega (arith, found.1))

-- Two events of one task: their rows, with the same task.
record AreOfOneTask (history : History) (a b : ℕ) : Type 0 where
  one : Row
  other : Row
  one_is : row_of history a ≡ Some one
  other_is : row_of history b ≡ Some other
  same : one.task ≡ other.task

one_task : (history : History) (a b : ℕ) → IsTrue (are_of_one_task history a b) → AreOfOneTask history a b
one_task history a b are = by (row_of history a) (row_of history b) refl refl are
  where
    by : (x y : Option Row) → row_of history a ≡ x → row_of history b ≡ y → have_one_task x y ≡ true → AreOfOneTask history a b
    by None y one other have = absurd (false≢true have)
    by (Some x) None one other have = absurd (false≢true have)
    by (Some x) (Some y) one other have = record { one = x; other = y; one_is = one; other_is = other; same = (is_same_iff x.task y.task).0 have }

from_rows : (history : History) (a b : ℕ) (x y : Row) → row_of history a ≡ Some x → row_of history b ≡ Some y → x.task ≡ y.task → IsTrue (are_of_one_task history a b)
from_rows history a b x y one other same = (λ i. have_one_task (one i) (other i)) ∙ (is_same_iff x.task y.task).1 same

pub one_task-itself : (history : History) (event : ℕ) → IsTrue (is_event history event) → IsTrue (are_of_one_task history event event)
one_task-itself history event is =
    let bounds = event_bounds history event is in
    let found = row_there history event bounds.0 bounds.1 in
    from_rows history event event found.0 found.0 found.1 found.1 refl

-- two events that are of the task of a third are of one task
pub one_task-both : (history : History) (event a b : ℕ) → IsTrue (are_of_one_task history event a) → IsTrue (are_of_one_task history event b) → IsTrue (are_of_one_task history a b)
one_task-both history event a b first second =
    let x = one_task history event a first in
    let y = one_task history event b second in
    let common : x.one ≡ y.one = same_Some x.one y.one (sym x.one_is ∙ y.one_is) in
    from_rows history a b x.other y.other x.other_is y.other_is (sym x.same ∙ ap (λ (row : Row). row.task) common ∙ y.same)

pub one_task-through : (history : History) (a b c : ℕ) → IsTrue (are_of_one_task history a b) → IsTrue (are_of_one_task history b c) → IsTrue (are_of_one_task history a c)
one_task-through history a b c first second =
    let x = one_task history a b first in
    let y = one_task history b c second in
    let common : x.other ≡ y.one = same_Some x.other y.one (sym x.other_is ∙ y.one_is) in
    from_rows history a c x.one y.other x.one_is y.other_is (x.same ∙ ap (λ (row : Row). row.task) common ∙ y.same)

-- A later event of the same task reaches the event, too.
record IsOvertaken (history : History) (event other : ℕ) : Type 0 where
  later : ℕ
  there : IsTrue (is_event history later)
  behind : other < later
  same : IsTrue (are_of_one_task history other later)
  reached : IsTrue (reaches history later event)

module _ (history : History) (event other : ℕ) where
  abbrev overtakes : ℕ → Bool
  overtakes later = ltb other later && (are_of_one_task history other later && reaches history later event)

  overtaken : is_outdated history event other ≡ true → IsOvertaken history event other
  overtaken is =
      let found = Contains_from_list_any overtakes (events history) is in
      let bounds = (Contains-numbers (length history) found.0).0 found.1 in
      let parts = and_parts (ltb other found.0) _ found.2 in
      let rest = and_parts (are_of_one_task history other found.0) _ parts.1 in
      record { later = found.0; there = event_from_bounds history found.0 bounds.0 bounds.1; behind = ltb-true other found.0 parts.0; same = rest.0; reached = rest.1 }

  outdated : IsOvertaken history event other → is_outdated history event other ≡ true
  outdated by =
      let bounds = event_bounds history by.later by.there in
      let one = (Contains-numbers (length history) by.later).1 bounds in
      list_any_at overtakes (events history) one.0 by.later one.1
      (ap overtakes one.2 ∙ and_from (ltb other by.later) _ (lt-ltb other by.later by.behind) (and_from (are_of_one_task history other by.later) _ by.same by.reached))

module _ (history : History) (event : ℕ) where
  abbrev chosen : ℕ → Bool
  chosen other = reaches history other event && not (is_outdated history event other)

  -- what reaches the event and is not overtaken stands in the cut
  in_cut : (other : ℕ) → IsTrue (is_event history other) → IsTrue (reaches history other event) → is_outdated history event other ≡ false → Contains (cut_of history event) other
  in_cut other there reached last =
      Contains-filter chosen (events history) other ((Contains-numbers (length history) other).1 (event_bounds history other there))
      (and_from (reaches history other event) _ reached (not_from_false (is_outdated history event other) last))

  pub members : (other : ℕ) → Contains (cut_of history event) other ↔ IsLastToReach history event other
  members other = (
    λ one.
        let kept = filter-Contains chosen (events history) other one in
        let bounds = (Contains-numbers (length history) other).0 kept.0 in
        let parts = and_parts (reaches history other event) _ kept.1 in
        record {
          there = event_from_bounds history other bounds.0 bounds.1;
          reached = (reaches_iff history other event).0 parts.0;
          last = λ later behind same reached.
              let row = one_task history other later same in
              let later_bounds = event_of_row history later row.other row.other_is in
              false≢true
              (sym (not-true (is_outdated history event other) parts.1)
              ∙ outdated history event other
              (record {
                later = later;
                there = event_from_bounds history later later_bounds.0 later_bounds.1;
                behind = behind;
                same = same;
                reached = (reaches_iff history later event).1 reached;
              }));
        },
    λ is. in_cut other is.there ((reaches_iff history other event).1 is.reached)
        (elim (cases_Bool (is_outdated history event other)) [
          | inl old ↦ (
              let by = overtaken history event other old in
              absurd (is.last by.later by.behind by.same ((reaches_iff history by.later event).0 by.reached))
              )
          | inr last ↦ last
        ]),
  )

  -- the last event of a task that reaches the event, looked for from one that does
  climbed : (steps other : ℕ) → length history ≤ other + steps → IsTrue (is_event history other) → IsTrue (reaches history other event)
      → (one : ℕ) × Contains (cut_of history event) one × IsTrue (are_of_one_task history other one)
  climbed zero other few there reached = at (cases_Bool (is_outdated history event other))
    where
      at : (is_outdated history event other ≡ true) ⊎ (is_outdated history event other ≡ false)
          → (one : ℕ) × Contains (cut_of history event) one × IsTrue (are_of_one_task history other one)
      at (inl old) =
          let by = overtaken history event other old in
          absurd (omega (arith, by.behind, few, (event_bounds history by.later by.there).1))
      at (inr last) = (other, in_cut other there reached last, one_task-itself history other there)
  climbed (suc steps) other few there reached = at (cases_Bool (is_outdated history event other)) (climbed steps)
    where
      at : (is_outdated history event other ≡ true) ⊎ (is_outdated history event other ≡ false)
          → ((later : ℕ) → length history ≤ later + steps → IsTrue (is_event history later) → IsTrue (reaches history later event)
          → (one : ℕ) × Contains (cut_of history event) one × IsTrue (are_of_one_task history later one))
          → (one : ℕ) × Contains (cut_of history event) one × IsTrue (are_of_one_task history other one)
      at (inl old) climb =
          let by = overtaken history event other old in
          let found = climb by.later (omega (arith, by.behind, few)) by.there by.reached in
          (found.0, found.1, one_task-through history other by.later found.0 by.same found.2)
      at (inr last) climb = (other, in_cut other there reached last, one_task-itself history other there)

  -- of two of one task in the cut, the later one is no other
  not_two : (a b : ℕ) → Contains (cut_of history event) a → Contains (cut_of history event) b → IsTrue (are_of_one_task history a b) → ¬ (a < b)
  not_two a b first second same before = ((members a).0 first).last b before same ((members b).0 second).reached

  pub every_task : (other : ℕ) → IsTrue (is_event history other) → Reaches history other event → HasOneOfTask history other (cut_of history event)
  every_task other there reached =
      let found = climbed (length history) other (omega arith) there ((reaches_iff history other event).1 reached) in
      record {
        one = found.0;
        among = found.1;
        same = found.2;
        alone = λ x among same.
            let below = not_two x found.0 among found.1 (one_task-both history other x found.0 same found.2) in
            let above = not_two found.0 x found.1 among (one_task-both history other found.0 x found.2 same) in
            elim (cases_eq x found.0) [ inl is ↦ is | inr differ ↦ absurd (apart x found.0 differ below above) ];
      }
    where
      apart : (x y : ℕ) → x ≢ y → ¬ (x < y) → ¬ (y < x) → ⊥
      apart x y differ below above = elim (cases_Bool (ltb x y)) [
        | inl less ↦ below (ltb-true x y less)
        | inr more ↦ above (grind (arith, nat_tests, differ, more))
      ]

  pub itself : IsTrue (is_event history event) → Contains (cut_of history event) event
  itself there = (members event).1 (record {
    there = there;
    reached = ([], refl);
    last = λ later behind same reached. omega (arith, behind, Reaches-le history event reached.0 later reached.1);
  })

  pub increases : IsStrictlyIncreasing (cut_of history event)
  increases = IsStrictlyIncreasing-filter chosen (events history) (numbers_increase (length history))
