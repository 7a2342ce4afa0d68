-- What is to be kept of each task after a report is right.
use Rattle.std.proofs.Common.{◌≡◌, ℕ, suc, ◌+◌, true, false, cond, List, [], ◌∷◌, ◌++◌, length, slice_get, Option, Some, None, is_some, refl, sym, ap, ◌∙◌, subst, arith}
use Rattle.tenant_ledger.proofs.Words.{cond-true, cond-false, cond_both, or_left, or_right, and_right, nat_tests, sum_by-append, is_same-itself, is_same_iff, Text, is_same, root, History, start_event, starts, starts_task, ends, ends_task, joins, joins_task, names, is_known, is_ended, is_joined, state_of, task_count, tree_clock, id_of, id_kept, of_named, row_after, Id, Zero, Row, IsLive, AllowsNamed, Contents, IsKept, IsTask, history_in, task_in, ids_made, made_ids, acting_after, id_left, named_after, kind_of, name_of, IsFound, Deed, value_with, count_with, value_with_some, count_with_some, start_of, Task}
use Rattle.trace_types.specs.declared.task_state.TaskState.TheVariants.{Live, Joined}
use Rattle.tenant_ledger.specs.declared.book.report.Deed.TheVariants as deed
use Rattle.tenant_ledger.proofs.clock.Tasks.{last_event-acting, last_event-bystander, last_event-started, live_is_not_unknown, live_is_not_ended, unknown_has_no_event}
use Rattle.tenant_ledger.proofs.keeping.Known.{differ_back, legal_history, task_kept, has_known, unknown_has_not_ended, unended_is_not_joined}
use Rattle.tenant_ledger.proofs.keeping.Lists.{slice_get-longer, slice_get-seam, slice_get-behind}
use Rattle.tenant_ledger.proofs.keeping.Starts.{start_event-other, start_of-newest}

module _ (row : Row) (earlier : History) where
  -- a known task stays known
  known_stays : (task : Text) → is_known earlier task ≡ true → is_known (row ∷ earlier) task ≡ true
  known_stays task known = grind (arith, nat_tests)

  -- one task more, if the row starts one
  task_count-more : task_count (row ∷ earlier) ≡ task_count earlier + cond (starts_task row.kind) 1 0
  task_count-more = let sums = sum_by-append (λ (r : Row). cond (starts_task r.kind) 1 0) (row ∷ []) earlier in omega (arith, sums)

  -- A row that is not of the task, and neither starts it nor takes it in nor changes its id, leaves what is kept of it right.
  stands_by : (ids more : List Id) (task : Text) → is_same row.task task ≡ false → starts task row ≡ false → joins task row ≡ false
      → id_of tree_clock (row ∷ earlier) task ≡ id_of tree_clock earlier task
      → (found : Option Task) → IsTask ids earlier task found → IsTask (ids ++ more) (row ∷ earlier) task found
  stands_by ids more task differ not_started not_joined same_id None unknown = rw not_started unknown
  stands_by ids more task differ not_started not_joined same_id (Some found) right =
      let not_ended : ends task row ≡ false = and_right (ends_task row.kind) (is_same row.task task) differ in (
        known_stays task right.0,
        rw (not_joined, not_ended) right.1,
        right.2 ∙ sym (last_event-bystander row earlier task differ not_started),
        λ unjoined. slice_get-longer ids more found.id _ (right.3 unjoined) ∙ ap Some (sym same_id),
        right.4 ∙ sym (start_event-other row earlier task not_started),
      )

-- a task was started when it was, whatever its event is
pub started_as : (deed : Deed) (event place : ℕ) (task : Task) → (acting_after deed event place task).start ≡ task.start
started_as (deed.Spawn child) event place task = refl
started_as deed.End event place task = refl
started_as (deed.Join child there found) event place task = refl
started_as deed event place task = refl

module _ (book : Contents) (kept : IsKept book) (task : Text) (acting : Task) (found : task_in book task ≡ Some acting) where
  abbrev history : History
  history = history_in book

  abbrev event : ℕ
  event = suc (length history)

  abbrev place : ℕ
  place = length book.ids

  abbrev own : Id
  own = id_of tree_clock history task

  abbrev named : Option Text → Id
  named name = of_named Zero (id_of tree_clock history) name

  -- the ids that the book has after the report
  abbrev ids_after : Deed → List Id
  ids_after deed = book.ids ++ made_ids (ids_made (kind_of deed) own (named (name_of deed)))

  abbrev row : Deed → Row
  row deed = row_after history task (kind_of deed) (name_of deed)

  -- what is kept of a task is right after the report
  abbrev IsRight : Deed → Text → Option Task → Type 0
  IsRight deed other found = IsTask (ids_after deed) (row deed ∷ history) other found

  abbrev Allowed : Deed → Type 0
  Allowed deed = AllowsNamed history (kind_of deed) (name_of deed)

  module _ (live : IsLive history task) where
    was_kept : IsTask book.ids history task (Some acting)
    was_kept = task_kept book kept task found

    unjoined : is_joined history task ≡ false
    unjoined = unended_is_not_joined history task (legal_history book kept) live.1

    pub own_id : slice_get book.ids acting.id ≡ Some (id_of tree_clock history task)
    own_id =
        let was_live = was_kept.1 ∙ cond-false (is_joined history task) _ _ unjoined ∙ cond-false (is_ended history task) _ _ live.1 in
        was_kept.3 λ joined. let clash : Live ≡ Joined = sym was_live ∙ joined in cc

    -- the acting task is left in this state
    state_after : (deed : Deed) → Allowed deed → (acting_after deed event place acting).state ≡ state_of (row deed ∷ history) task
    state_after deed.End allowed = rw (unjoined, is_same-itself task) refl
    state_after (deed.Join child there had) allowed = rw (differ_back task child (live_is_not_ended history task child live allowed.1)) was_kept.1
    state_after deed allowed = was_kept.1

    acting_id : (deed : Deed) → id_kept tree_clock (kind_of deed) own (named (name_of deed)) ≡ id_of tree_clock (row deed ∷ history) task
    acting_id deed = sym (cond-true (is_same task task) _ _ (is_same-itself task))

    -- with this id
    pub id_is_kept : (deed : Deed) → slice_get (ids_after deed) (acting_after deed event place acting).id ≡ Some (id_of tree_clock (row deed ∷ history) task)
    id_is_kept (deed.Spawn child) = slice_get-seam book.ids _ _ ∙ ap Some (acting_id (deed.Spawn child))
    id_is_kept (deed.Join child there had) = slice_get-seam book.ids _ _ ∙ ap Some (acting_id (deed.Join child there had))
    id_is_kept deed = slice_get-longer book.ids [] acting.id _ own_id ∙ ap Some (acting_id deed)

    -- which is the first that the event makes, else the one that the task had
    pub id_is_left : (deed : Deed)
        → id_left book.ids (made_ids (ids_made (kind_of deed) own (named (name_of deed)))) (acting_after deed event place acting).id ≡ Some (id_of tree_clock (row deed ∷ history) task)
    id_is_left (deed.Spawn child) = ap Some (acting_id (deed.Spawn child))
    id_is_left (deed.Join child there had) = ap Some (acting_id (deed.Join child there had))
    id_is_left deed = own_id ∙ ap Some (acting_id deed)

    last_after : (deed : Deed) → (acting_after deed event place acting).last ≡ event
    last_after deed.Local = refl
    last_after deed = refl

    -- it was started when it was
    start_after : (deed : Deed) → Allowed deed → (acting_after deed event place acting).start ≡ start_event (row deed ∷ history) task
    start_after (deed.Spawn child) allowed =
        was_kept.4 ∙ sym (start_event-other (row (deed.Spawn child)) history task (differ_back task child (live_is_not_unknown history task child live allowed)))
    start_after deed.Local allowed = was_kept.4
    start_after deed allowed = was_kept.4

    -- which is what is told of the event
    pub start_is_kept : (deed : Deed) → Allowed deed → (acting_after deed event place acting).start ≡ start_of (row deed ∷ history) event
    start_is_kept deed allowed = start_after deed allowed ∙ sym (start_of-newest (row deed) history)

    -- so what is to be kept of it is right
    acting_is_task : (deed : Deed) → Allowed deed → IsRight deed task (Some (acting_after deed event place acting))
    acting_is_task deed allowed = (
      known_stays (row deed) history task live.0,
      state_after deed allowed,
      last_after deed ∙ sym (last_event-acting (row deed) history task (is_same-itself task)),
      λ _. id_is_kept deed,
      start_after deed allowed,
    )

    -- of a task that the report starts
    started_is_task : (child : Text) → is_known history child ≡ false
        → IsRight (deed.Spawn child) child (Some (record { state = Live; last = event; id = suc place; start = event }))
    started_is_task child new =
        let legal = legal_history book kept in
        let differ = live_is_not_unknown history task child live new in
        let unended = unknown_has_not_ended history child legal new in (
          or_right (is_same child root) _ (or_left (is_same child child) _ (is_same-itself child)),
          sym (cond-false (is_joined history child) _ _ (unended_is_not_joined history child legal unended) ∙ cond-false (is_ended history child) _ _ unended),
          sym (last_event-started (row (deed.Spawn child)) history child differ (unknown_has_no_event history child legal new) (is_same-itself child)),
          λ _. slice_get-behind book.ids _ _ _ ∙ ap Some (sym (cond-false (is_same task child) _ _ differ ∙ cond-true (is_same child child) _ _ (is_same-itself child))),
          sym (cond-true (is_same child child) _ _ (is_same-itself child)),
        )

    -- of a task that it takes in
    joined_is_task : (child : Text) (there : ℕ) (had : Task) → task_in book child ≡ Some had → is_ended history child ≡ true
        → IsRight (deed.Join child there had) child (Some (record had { state = Joined }))
    joined_is_task child there had child_found ended =
        let right = task_kept book kept child child_found in
        let differ = live_is_not_ended history task child live ended in (
          known_stays (row (deed.Join child there had)) history child right.0,
          sym (cond-true (is_joined (row (deed.Join child there had) ∷ history) child) _ _ (or_left (is_same child child) _ (is_same-itself child))),
          right.2 ∙ sym (last_event-bystander (row (deed.Join child there had)) history child differ refl),
          λ unjoined. absurd (unjoined refl),
          right.4,
        )

    -- the task that is named, once it is kept, and every other one
    named_or_not : (deed : Deed) (child : Text) (kept_of : Task) → name_of deed ≡ Some child → IsRight deed child (Some kept_of)
        → (other : Text) → is_same task other ≡ false → IsRight deed other (value_with child kept_of (task_in book) other)
    named_or_not deed child kept_of named_is right other differ =
        cond_both (is_same child other) _ _ (IsRight deed other)
        (λ same. subst (λ name. IsRight deed name (Some kept_of)) ((is_same_iff child other).0 same) right)
        (λ not.
        let unnamed : names (row deed) other ≡ false = ap (λ name. names (record (row deed) { name = name }) other) named_is ∙ not in
        stands_by (row deed) history book.ids _ other differ (and_right (starts_task (kind_of deed)) _ unnamed) (and_right (joins_task (kind_of deed)) _ unnamed)
        (cond-false (is_same task other) _ _ differ ∙ cond-false (names (row deed) other) _ _ unnamed) (task_in book other) (kept.tasks_are other))

    others_are_tasks : (deed : Deed) → IsFound book acting.start deed → Allowed deed → (other : Text) → is_same task other ≡ false
        → IsRight deed other (value_with_some (named_after deed event place) (name_of deed) (task_in book) other)
    others_are_tasks (deed.Spawn child) is allowed other differ = named_or_not (deed.Spawn child) child _ refl (started_is_task child allowed) other differ
    others_are_tasks (deed.Join child there had) is allowed other differ =
        named_or_not (deed.Join child there had) child _ refl (joined_is_task child there had is allowed.1) other differ
    others_are_tasks deed is allowed other differ =
        let same = cond_both (names (row deed) other) _ _ (λ id. id ≡ id_of tree_clock history other) (λ _. refl) (λ _. refl) in
        stands_by (row deed) history book.ids _ other differ refl refl (cond-false (is_same task other) _ _ differ ∙ same) (task_in book other) (kept.tasks_are other)

    abbrev tasks_after : Deed → Text → Option Task
    tasks_after deed = value_with_some (named_after deed event place) (name_of deed) (task_in book)

    -- so it is of each task
    pub tasks_are_kept : (deed : Deed) → IsFound book acting.start deed → Allowed deed → (other : Text)
        → IsRight deed other (value_with task (acting_after deed event place acting) (tasks_after deed) other)
    tasks_are_kept deed is allowed other =
        cond_both (is_same task other) _ _ (IsRight deed other)
        (λ same. subst (λ t. IsRight deed t (Some (acting_after deed event place acting))) ((is_same_iff task other).0 same) (acting_is_task deed allowed))
        (others_are_tasks deed is allowed other)

    -- the acting task is among those that the book has, whatever is kept of the one that is named
    acting_is_there : (name : Option Text) (put : Option Task) → is_some (value_with_some put name (task_in book) task) ≡ true
    acting_is_there name None = ap is_some found
    acting_is_there None (Some put) = ap is_some found
    acting_is_there (Some child) (Some put) = cond_both (is_same child task) _ _ (λ had. is_some had ≡ true) (λ _. refl) (λ _. ap is_some found)

    -- and the tasks are counted
    pub tasks_are_counted : (deed : Deed) → IsFound book acting.start deed → Allowed deed
        → count_with task (tasks_after deed) (count_with_some (named_after deed event place) (name_of deed) (task_in book) (length book.tasks))
        ≡ task_count (row deed ∷ history)
    tasks_are_counted done is allowed =
        rw (acting_is_there (name_of done) (named_after done event place)) (omega (arith, by done is allowed, task_count-more (row done) history))
      where
        by : (deed : Deed) → IsFound book acting.start deed → Allowed deed
            → count_with_some (named_after deed event place) (name_of deed) (task_in book) (length book.tasks) ≡ task_count history + cond (starts_task (kind_of deed)) 1 0
        by (deed.Spawn child) is allowed = rw (has_known book kept child ∙ allowed) (omega (arith, kept.counted))
        by (deed.Join child there had) is allowed = rw (has_known book kept child ∙ allowed.0) (omega (arith, kept.counted))
        by deed is allowed = kept.counted ∙ omega arith
