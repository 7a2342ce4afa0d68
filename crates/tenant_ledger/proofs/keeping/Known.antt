-- What is known of a task that the book has, or has not.
use Rattle.std.proofs.Common.{◌≡◌, true, false, [], ◌∷◌, Option, Some, None, refl, sym, ◌∙◌, subst, arith}
use Rattle.std.specs.Prelude.{is_some}
use Rattle.tenant_ledger.proofs.Words.{false≢true, false_from_ne_true, nat_tests, is_same_iff, Text, is_same, History, joins, is_known, is_ended, is_joined, state_of, Row, Kind, Join, Task, AllowsNamed, IsLegal, Contents, IsKept, IsTask, history_in, task_in}
use Rattle.trace_types.specs.declared.task_state.TaskState.{TaskState}
use Rattle.trace_types.specs.declared.task_state.TaskState.TheVariants as state
use Rattle.tenant_ledger.proofs.clock.Legality.{IsLegal_from_AreLegal}
use Rattle.tenant_ledger.proofs.clock.Tasks.{live_is_not_unknown, unwas_known}

-- the order in which names are compared does not matter
pub differ_back : (one other : Text) → is_same one other ≡ false → is_same other one ≡ false
differ_back one other differ = false_from_ne_true (is_same other one) λ same.
    false≢true (sym differ ∙ (is_same_iff one other).1 (sym ((is_same_iff other one).0 same)))

-- a task that a row may take in has ended
pub joined_was : (earlier : History) (row : Row) (task : Text) (kind : Kind) (name : Option Text) → AllowsNamed earlier kind name
    → joins task (record row { kind = kind; name = name }) ≡ true → is_ended earlier task ≡ true
joined_was earlier row task Join (Some child) allowed joins_it = subst (λ name. is_ended earlier name ≡ true) ((is_same_iff child task).0 joins_it) allowed.1
joined_was earlier row task Join None allowed joins_it = absurd allowed
joined_was earlier row task kind name allowed joins_it = absurd (false≢true joins_it)

-- so each task that was joined has ended
pub joined_has_ended : (history : History) (task : Text) → IsLegal history → is_joined history task ≡ true → is_ended history task ≡ true
joined_has_ended [] task legal joined = absurd (false≢true joined)
joined_has_ended (row ∷ earlier) task legal joined =
    grind (arith, nat_tests, joined_was earlier row task row.kind row.name legal.0.1, joined_has_ended earlier task legal.1)

-- and a task that is not known has not ended
pub unknown_has_not_ended : (history : History) (task : Text) → IsLegal history → is_known history task ≡ false → is_ended history task ≡ false
unknown_has_not_ended [] task legal unknown = refl
unknown_has_not_ended (row ∷ earlier) task legal unknown =
    grind (arith, nat_tests, unwas_known row earlier task unknown, live_is_not_unknown earlier row.task task legal.0.0, unknown_has_not_ended earlier task legal.1)

-- so neither was joined
pub unended_is_not_joined : (history : History) (task : Text) → IsLegal history → is_ended history task ≡ false → is_joined history task ≡ false
unended_is_not_joined history task legal unended = grind (arith, nat_tests, joined_has_ended history task legal)

-- what the rows are for a task in this state
abbrev pub IsAt : History → Text → TaskState → Type 0
IsAt history task state.Live = (is_ended history task ≡ false) × (is_joined history task ≡ false)
IsAt history task state.Ended = (is_ended history task ≡ true) × (is_joined history task ≡ false)
IsAt history task state.Joined = (is_ended history task ≡ true) × (is_joined history task ≡ true)

pub state_is_at : (history : History) (task : Text) → IsLegal history → IsAt history task (state_of history task)
state_is_at history task legal = grind (arith, nat_tests, joined_has_ended history task legal)

module _ (book : Contents) (kept : IsKept book) where
  pub legal_history : IsLegal (history_in book)
  legal_history = IsLegal_from_AreLegal book.limits book.rows kept.legal

  -- what is kept of a task that the book has
  pub task_kept : (name : Text) {task : Task} → task_in book name ≡ Some task → IsTask book.ids (history_in book) name (Some task)
  task_kept name found = subst (IsTask book.ids (history_in book) name) found (kept.tasks_are name)

  -- it is as far as the book says
  pub is_at : (name : Text) {task : Task} → task_in book name ≡ Some task → IsAt (history_in book) name task.state
  is_at name found = subst (IsAt (history_in book) name) (sym (task_kept name found).1) (state_is_at (history_in book) name legal_history)

  -- the book has the tasks that are known
  pub has_known : (name : Text) → is_some (task_in book name) ≡ is_known (history_in book) name
  has_known name = by (task_in book name) (kept.tasks_are name)
    where
      by : (found : Option Task) → IsTask book.ids (history_in book) name found → is_some found ≡ is_known (history_in book) name
      by None unknown = sym unknown
      by (Some task) right = sym right.0
